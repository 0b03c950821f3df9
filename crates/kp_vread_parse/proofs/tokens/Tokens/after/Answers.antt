use Rattle.std.proofs.Common.{true, false}
use Rattle.kp_vread_parse.{specs.inner.Words.class_of, proofs.Taking.end_at, proofs.Taking.fixed_isnt_end, proofs.Taking.kind_at, proofs.Taking.reads_kind}
use Rattle.kp_vread_parse.proofs.tokens.Tokens.after.Goals as goal

pub returns-in_default : goal.returns-in_default
returns-in_default c = end_at c.args.self.now c.args.at (class_of c.args.fixed) c.in_default.ensures.token (fixed_isnt_end c.args.fixed)

pub returns-then-not-is : goal.returns-then-not-is
returns-then-not-is c = kind_at c.args.self.now c.args.at (class_of c.args.fixed) _ c.in-Some.token.kind _ _ false c.in-Some.ensures.token (cc c.is.ensures)

pub returns : goal.returns
returns c = (
  kind_at c.args.self.now c.args.at (class_of c.args.fixed) _ c.in-Some.token.kind _ _ true c.in-Some.ensures.token (cc c.is.ensures),
  reads_kind c.args.self.now c.args.at c.in-Some.next (class_of c.args.fixed) _ c.in-Some.token.kind _ c.in-Some.ensures.token (cc c.is.ensures),
)
