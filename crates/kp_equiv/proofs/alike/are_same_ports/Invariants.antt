use Rattle.kp_equiv.proofs.Inputs.{SameFront}
use Rattle.kp_equiv.proofs.alike.are_same_ports.Given as goal

abbrev pub invariant-loop-i : goal.invariant-loop-i
invariant-loop-i l = SameFront l.xs l.ys l.i
