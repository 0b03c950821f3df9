use Rattle.std.proofs.Common.{refl, sym, ◌∙◌, arith, true≢false}
use Rattle.kp_view_expected.proofs.Exact.{is_listed, passed_over, none_listed}
use Rattle.kp_view_expected.proofs.set.Expected.has.Goals.{else-is-via-then-is+else-self-i, else-is-via-else-is}
use Rattle.kp_view_expected.proofs.set.Expected.has.Goals as goal

pub returns-then-self-i : goal.returns-then-self-i
returns-then-self-i c = (
  (λ _. is_listed c.args.self.now c.args.class c.all-each-items.result.now c.loop-i.i _ c.is.result c.all-each-items.ensures c.loop-i-test.true c.is.ensures c.if-is.true c.if-self-i.true),
  (λ _. refl),
)

pub loop-i-preserved : goal.loop-i-preserved
loop-i-preserved c =
    passed_over c.args.self.now c.args.class c.all-each-items.result.now c.loop-i.i _ c.all-each-items.ensures c.loop-i-test.true
    (λ same on. elim c.else-is.branch [
      | else-is-via-then-is+else-self-i w ↦ true≢false (sym on ∙ w.if-self-i.false)
      | else-is-via-else-is w ↦ true≢false (sym (c.is.ensures ∙ same) ∙ w.if-is.false)
    ])
    c.loop-i.invariant

pub returns : goal.returns
returns c = (
  (λ h. cc h),
  (λ h. absurd (none_listed c.args.self.now c.args.class c.all-each-items.result.now c.loop-i.i c.all-each-items.ensures (omega (arith, c.loop-i-test.false)) c.loop-i.invariant h)),
)
