use Rattle.kp_parse_grammar.{specs.Tokens.keyword_class, proofs.Taking.missed}
use Rattle.kp_parse_grammar.proofs.tokens.Tokens.keyword.Goals as goal

pub returns-in-None : goal.returns-in-None
returns-in-None c = record { ends = missed c.args.self.now c.args.at (keyword_class c.args.keyword) c.in-None.ensures }
