use Rattle.std.proofs.Common.{arith}
use Rattle.kp_design.proofs.Opening.{opened}
use Rattle.kp_design.proofs.layout.Layout.of.Goals as goal

pub invariant_of-result : goal.invariant_of-result
invariant_of-result c =
    opened c.args.design.now c.job-job.ensures.sound _ c.job-job.ensures.job _ c.len.result c.in_ok-declared.ensures (omega (arith, c.len.ensures, c.in_ok-declared.declared.targets.ok))
    c.in_ok-ports.ensures.count c.in_ok-ports.ensures.ports c.in_ok-guesses.ensures
