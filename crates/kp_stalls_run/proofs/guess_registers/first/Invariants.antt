use Rattle.std.proofs.Common.{◌≡◌, drop}
use Rattle.kp_net.specs.Netlist.{cells_of, stalled}
use Rattle.kp_design.specs.Numbers.{guesses_of}
use Rattle.kp_stalls_run.specs.inner.Held.{first_word}
use Rattle.kp_stalls_run.proofs.guess_registers.first.Given as goal

abbrev pub invariant-loop-g : goal.invariant-loop-g
invariant-loop-g l =
    let c = cells_of (stalled 0) l.sim.state in
    first_word l.layout c l.stage l.register l.g (drop l.g (guesses_of l.layout)) ≡ first_word l.layout c l.stage l.register 0 (guesses_of l.layout)
