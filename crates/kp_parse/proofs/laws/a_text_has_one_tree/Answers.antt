use Rattle.kp_parse.proofs.Unique.{one_tree}
use Rattle.kp_parse.proofs.laws.a_text_has_one_tree.Goals as goal

pub returns : goal.returns
returns c = one_tree
