use Rattle.std.proofs.Common.{length}
use Rattle.kp_test_cases.proofs.head.words_in.Given as goal

abbrev pub decreases-loop-rest : goal.decreases-loop-rest
decreases-loop-rest l = length l.rest
