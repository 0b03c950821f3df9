use Rattle.kp_vread_parse.proofs.Taking.{token_at}
use Rattle.kp_vread_parse.proofs.tokens.Tokens.token.Goals as goal

pub returns-clause-token : goal.returns-clause-token
returns-clause-token c = rw (← c.self.view_is) (token_at c.self.inside.text.now c.self.inside.all.now c.args.at c.in_ok-token.token.now c.in_ok-token.ensures.lookup.3.0 c.in_ok-token.ensures.lookup.1)
