use Rattle.std.proofs.Common.{false, refl}
use Rattle.kp_vlog.specs.Language.{as_number}
use Rattle.kp_vread_parse.proofs.Taking.{end_at, kind_at, missed, no_number, reads_number}
use Rattle.kp_vread_parse.proofs.tokens.Tokens.number.Goals as goal

pub returns-in_default : goal.returns-in_default
returns-in_default c = record { ends = λ s vs. missed c.args.self.now c.args.at 2 (end_at c.args.self.now c.args.at 2 c.in_default.ensures.token refl) as_number s vs }

pub returns-in_default-kind : goal.returns-in_default-kind
returns-in_default-kind c = record { ends = λ s vs. missed c.args.self.now c.args.at 2 (kind_at c.args.self.now c.args.at 2 _ c.in-Some.token.kind _ _ false c.in-Some.ensures.token (no_number c.in-Some.token.kind c.in_default-kind.not-Number)) as_number s vs }

pub returns : goal.returns
returns c = reads_number c.args.self.now c.args.at c.in-Some.next _ c.in-Some.token.kind _ c.in-Number.value c.in-Some.ensures.token c.in-Number.is
