use Rattle.std.proofs.Common.{◌≡◌, length}
use Rattle.kp_debug.specs.{Sessions.inputs_of, inner.Kept.HasRun}
use Rattle.kp_debug.proofs.cycles.run_between.Given as goal

abbrev pub invariant-loop-cycle : goal.invariant-loop-cycle
invariant-loop-cycle l =
    (l.sim.net ≡ l.fn.sim.net) × (l.sim.slots ≡ l.fn.sim.slots) × HasRun l.sim (inputs_of (length l.fn.sim.net.parts.samples) l.exts l.samples) l.cycle
