use Rattle.std.proofs.Common.{length}
use Rattle.kp_expected.proofs.rest.+begins.Given as goal

abbrev pub decreases-begins : goal.decreases-begins
decreases-begins g l = length l.symbols.now
