use Rattle.kp_engine.specs.Misses.{BitsOk}
use Rattle.kp_test_circuits.proofs.controls.are_bits.Given as goal

abbrev pub invariant-loop-i : goal.invariant-loop-i
invariant-loop-i l = BitsOk l.pool l.misses l.i
