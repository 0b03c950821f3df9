use Rattle.std.proofs.Common.{length}
use Rattle.kp_test_cases.proofs.add_cases.Given as goal

abbrev pub decreases-loop-rest : goal.decreases-loop-rest
decreases-loop-rest l = length l.rest
