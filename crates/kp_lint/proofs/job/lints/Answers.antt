use Rattle.kp_lint.{specs.inner.Noted.facts_in, proofs.Passing.all_found}
use Rattle.kp_lint.proofs.job.lints.Goals as goal

pub returns : goal.returns
returns c =
    let facts = c.in_ok-facts.facts in
    all_found c.args.job.now facts.job.now (facts_in facts) c.args.most c.new-notes.result c.in_decls.new.notes c.in_blocks.new.notes c.in_ok-facts.ensures.job
    c.in_ok-facts.ensures.facts c.new-notes.ensures c.in_ok-in_decls.ensures c.in_ok-in_blocks.ensures
