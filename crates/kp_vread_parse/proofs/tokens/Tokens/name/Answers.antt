use Rattle.std.proofs.Common.{false, refl}
use Rattle.kp_vlog.specs.Language.{as_name}
use Rattle.kp_vread_parse.proofs.Taking.{end_at, kind_at, missed, no_name, reads_name}
use Rattle.kp_vread_parse.proofs.tokens.Tokens.name.Goals as goal

pub returns-in_default : goal.returns-in_default
returns-in_default c = record { ends = λ s vs. missed c.args.self.now c.args.at 1 (end_at c.args.self.now c.args.at 1 c.in_default.ensures.token refl) as_name s vs }

pub returns-in_default-kind : goal.returns-in_default-kind
returns-in_default-kind c = record { ends = λ s vs. missed c.args.self.now c.args.at 1 (kind_at c.args.self.now c.args.at 1 _ c.in-Some.token.kind _ _ false c.in-Some.ensures.token (no_name c.in-Some.token.kind c.in_default-kind.not-Ident)) as_name s vs }

pub returns : goal.returns
returns c = rw c.in_ok-name.ensures (reads_name c.args.self.now c.args.at c.in-Some.next _ c.in-Some.token.kind _ c.in-Some.ensures.token c.in-Ident.is)
