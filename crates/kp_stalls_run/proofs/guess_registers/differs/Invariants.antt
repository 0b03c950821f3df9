use Rattle.std.{proofs.Common.◌≡◌, proofs.Common.drop, specs.List.list_any}
use Rattle.kp_net.specs.Netlist.{cells_of, stalled}
use Rattle.kp_design.specs.Numbers.{guesses_of}
use Rattle.kp_stalls_run.specs.{Guessed.is_other_guess, inner.Held.held_from}
use Rattle.kp_stalls_run.proofs.guess_registers.differs.Given as goal

abbrev pub invariant-loop-g : goal.invariant-loop-g
invariant-loop-g l =
    let c = cells_of (stalled 0) l.sim.state in
    list_any (is_other_guess l.register l.value.value) (held_from l.layout c l.stage l.g (drop l.g (guesses_of l.layout)))
    ≡ list_any (is_other_guess l.register l.value.value) (held_from l.layout c l.stage 0 (guesses_of l.layout))
