use Rattle.std.proofs.Common.{sym, ◌∙◌, true, false, rules}
use Rattle.kp_view_expected.specs.declared.token_class.TokenClass.TheVariants as classes
use Rattle.kp_view_expected.proofs.Listing.{step_to, on, off, other, is_whole}
use Rattle.kp_view_expected.proofs.set.Expected.has_all.Goals.{else-has-via-then-has+else-not-self-i, else-has-via-else-has}
use Rattle.kp_view_expected.proofs.set.Expected.has_all.Goals as goal

pub returns-then-not-self-i : goal.returns-then-not-self-i
returns-then-not-self-i c =
    sym (step_to c.args.self.now c.args.group c.all-class-items.result.now c.loop-i.i _ false false c.all-class-items.ensures c.loop-i-test.true (search rules)
    (off _ _ c.if-not-self-i.true (sym c.has.ensures ∙ c.if-has.true)) c.loop-i.invariant)

pub loop-i-preserved : goal.loop-i-preserved
loop-i-preserved c = elim c.else-has.branch [
  | else-has-via-then-has+else-not-self-i w ↦
      step_to c.args.self.now c.args.group c.all-class-items.result.now c.loop-i.i classes.Name false true c.all-class-items.ensures c.loop-i-test.true (search rules)
      (on _ _ w.if-not-self-i.false) c.loop-i.invariant
  | else-has-via-else-has w ↦
      step_to c.args.self.now c.args.group c.all-class-items.result.now c.loop-i.i _ false true c.all-class-items.ensures c.loop-i-test.true (search rules)
      (other _ _ (sym c.has.ensures ∙ w.if-has.false)) c.loop-i.invariant
]

pub returns : goal.returns
returns c = sym (is_whole c.args.self.now c.args.group c.all-class-items.result.now c.loop-i.i c.all-class-items.ensures c.loop-i-test.false c.loop-i.invariant)
