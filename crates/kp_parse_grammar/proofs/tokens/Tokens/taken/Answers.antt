use Rattle.kp_parse_grammar.proofs.Taking.{there, not_ended}
use Rattle.kp_parse_grammar.proofs.tokens.Tokens.taken.Goals as goal

pub unreachable-requires : goal.unreachable-requires
unreachable-requires c = not_ended c.args.self.now c.args.at c.requires c.in_default.ensures.token

pub returns : goal.returns
returns c = there c.in-Some.ensures.token
