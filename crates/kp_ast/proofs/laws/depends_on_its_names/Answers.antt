use Rattle.kp_ast.proofs.Depends.{depends}
use Rattle.kp_ast.proofs.laws.depends_on_its_names.Goals as goal

pub returns : goal.returns
returns c a b e same = depends a b e same
