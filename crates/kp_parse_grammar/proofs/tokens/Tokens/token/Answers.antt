use Rattle.kp_parse_grammar.proofs.Taking.{lexeme_at}
use Rattle.kp_parse_grammar.proofs.tokens.Tokens.token.Goals as goal

pub returns-clause-token : goal.returns-clause-token
returns-clause-token c = rw (← c.self.view_is) (lexeme_at c.self.inside.text.now c.self.inside.all.now c.args.at c.in_ok-token.token.now c.in_ok-token.ensures.lookup.3.0 c.in_ok-token.ensures.lookup.1)
