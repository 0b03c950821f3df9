use Rattle.std.proofs.Common.{refl}
use Rattle.kp_tool.proofs.equiv.compared.Goals as goal

pub returns : goal.returns
returns c = (c.in_ok-verdict.verdict, c.in_ok-verdict.ensures, (refl, c.in_ok-line.ensures))
