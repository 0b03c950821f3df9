use Rattle.std.proofs.Common.{refl}
use Rattle.kp_parse_grammar.specs.Language.{as_number, at}
use Rattle.kp_parse_grammar.proofs.Taking.{missed_end, missed_kind, no_number, reads_number}
use Rattle.kp_parse_grammar.proofs.tokens.Tokens.number.Goals as goal

pub returns-in_default : goal.returns-in_default
returns-in_default c = record { ends = λ s cs vs. missed_end c.args.self.now c.args.at 2 c.in_default.ensures.token refl as_number s (at cs vs) }

pub returns-in_default-kind : goal.returns-in_default-kind
returns-in_default-kind c = record { ends = λ s cs vs. missed_kind c.args.self.now c.args.at 2 _ _ c.in-Some.ensures.token (no_number c.in-Some.token.kind c.in_default-kind.not-Number) as_number s (at cs vs) }

pub returns : goal.returns
returns c = reads_number c.args.self.now c.args.at c.in-Some.next _ c.in-Number.value c.in-Some.ensures.token c.in-Number.is
