use Rattle.std.proofs.Common.{length}
use Rattle.kp_test_cases.proofs.head.option.Given as goal

abbrev pub decreases-loop-name : goal.decreases-loop-name
decreases-loop-name l = length l.rest
