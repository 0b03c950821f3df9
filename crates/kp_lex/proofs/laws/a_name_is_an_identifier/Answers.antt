use Rattle.kp_lex.proofs.Names.{name_is_identifier}
use Rattle.kp_lex.proofs.laws.a_name_is_an_identifier.Goals as goal

pub returns : goal.returns
returns c = name_is_identifier
