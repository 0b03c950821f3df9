use Rattle.kp_ast.proofs.Levels.{fold-Call}
use Rattle.kp_ast.proofs.laws.size_of_call.Goals as goal

pub returns : goal.returns
returns c ds place name args = fold-Call _ _ _ _ place name args
