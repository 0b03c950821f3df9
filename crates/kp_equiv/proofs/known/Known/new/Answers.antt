use Rattle.kp_equiv.proofs.Growing.{few_names, names_known}
use Rattle.kp_equiv.proofs.known.Known.new.Goals as goal

pub returns-clause-few : goal.returns-clause-few
returns-clause-few c =
    few_names c.args.net.now _ c.parts-parts.ensures.right
    (names_known c.args.net.now c.parts-parts.result.now _ _ _ c.in_ok-regs.regs c.in_ok-files.files c.in_ok-samples.samples c.parts-parts.ensures.parts c.as_slice.ensures c.as_slice-2.ensures c.as_slice-3.ensures
    c.in_ok-regs.ensures c.in_ok-files.ensures c.in_ok-samples.ensures)
