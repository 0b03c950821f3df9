use Rattle.std.proofs.Common.{[], ◌∷◌}
use Rattle.kp_ast.proofs.Levels.{fold-Concat}
use Rattle.kp_ast.proofs.laws.one_part.Goals as goal

pub returns : goal.returns
returns c env place part = fold-Concat _ _ _ _ place (part ∷ [])
