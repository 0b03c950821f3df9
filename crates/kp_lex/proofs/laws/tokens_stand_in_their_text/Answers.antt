use Rattle.kp_lex.proofs.Stands.{tokens_stand}
use Rattle.kp_lex.proofs.laws.tokens_stand_in_their_text.Goals as goal

pub returns : goal.returns
returns c = tokens_stand
