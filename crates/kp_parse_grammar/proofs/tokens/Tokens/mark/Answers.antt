use Rattle.kp_parse_grammar.{specs.Tokens.mark_class, proofs.Taking.missed}
use Rattle.kp_parse_grammar.proofs.tokens.Tokens.mark.Goals as goal

pub returns-in-None : goal.returns-in-None
returns-in-None c = record { ends = missed c.args.self.now c.args.at (mark_class c.args.mark) c.in-None.ensures }
