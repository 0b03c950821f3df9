use Rattle.std.proofs.Common.{ℕ, ◌<◌}
use Rattle.kp_equiv.specs.{Alike.file_name, Agreement.FileAgrees}
use Rattle.kp_equiv.proofs.comparison.first_file.Given as goal

abbrev pub invariant-loop-i : goal.invariant-loop-i
invariant-loop-i l = (k : ℕ) → k < l.i → FileAgrees l.a l.b (file_name l.a k)
