use Rattle.std.proofs.Common.{false, refl}
use Rattle.kp_vlog.specs.Language.{as_literal}
use Rattle.kp_vread_parse.proofs.Taking.{end_at, kind_at, missed, no_literal, reads_literal}
use Rattle.kp_vread_parse.proofs.tokens.Tokens.literal.Goals as goal

pub returns-in_default : goal.returns-in_default
returns-in_default c = record { ends = λ s vs. missed c.args.self.now c.args.at 3 (end_at c.args.self.now c.args.at 3 c.in_default.ensures.token refl) as_literal s vs }

pub returns-in_default-kind : goal.returns-in_default-kind
returns-in_default-kind c = record { ends = λ s vs. missed c.args.self.now c.args.at 3 (kind_at c.args.self.now c.args.at 3 _ c.in-Some.token.kind _ _ false c.in-Some.ensures.token (no_literal c.in-Some.token.kind c.in_default-kind.not-Literal)) as_literal s vs }

pub returns : goal.returns
returns c = reads_literal c.args.self.now c.args.at c.in-Some.next _ c.in-Some.token.kind _ c.in-Literal.literal c.in-Some.ensures.token c.in-Literal.is
