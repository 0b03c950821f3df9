use Rattle.kp_equiv.proofs.Ordered.{all_behind}
use Rattle.kp_equiv.proofs.comparison.first_by_classes.Goals as goal

pub returns-clause-first : goal.returns-clause-first
returns-clause-first c =
    all_behind c.args.a.now c.args.b.now c.in_ok-regs.regs c.in_ok-more.more c.in_ok-files.files c.first_output-outputs.result c.first_of_sections.result
    c.in_ok-regs.ensures.first c.in_ok-more.ensures.first c.in_ok-more.ensures.none c.in_ok-files.ensures.first c.first_output-outputs.ensures.first c.first_of_sections.ensures.joined
