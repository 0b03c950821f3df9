use Rattle.std.proofs.Common.{ap, sym, ◌∙◌, arith}
use Rattle.kp_net.specs.declared.netlist.NetFile.{NetFile}
use Rattle.kp_equiv.{specs.Texts.root_name, proofs.Counting.behind_file}
use Rattle.kp_equiv.proofs.verdict_text.name_behind.Goals as goal

pub returns-then-place-files : goal.returns-then-place-files
returns-then-place-files c =
    c.bytes.ensures.bytes ∙ ap (λ (f : NetFile). f.name) c.file_at.ensures.value ∙ sym (ap root_name (behind_file c.args.a.now c.args.place (omega (arith, c.if-place-files.true, c.file_count-files.ensures.value))))
