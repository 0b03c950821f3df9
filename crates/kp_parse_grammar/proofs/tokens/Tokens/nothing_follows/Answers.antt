use Rattle.kp_parse_grammar.proofs.Steps.{stopped}
use Rattle.kp_parse_grammar.proofs.tokens.Tokens.nothing_follows.Goals as goal

pub returns-in-Some : goal.returns-in-Some
returns-in-Some c = record { ends = stopped c.args.self.now c.args.at _ _ c.in-Some.ensures.token }
