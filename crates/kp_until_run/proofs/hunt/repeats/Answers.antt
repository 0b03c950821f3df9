use Rattle.std.proofs.Common.{◌≡◌, ◌-◌, ◌<◌, ◌≤◌, ℕ, subst, arith, ⊎_elim}
use Rattle.std.proofs.lemmas.Bool.{cases_lt}
use Rattle.kp_until.specs.Untils.{AreSame}
use Rattle.kp_until_run.specs.Ending.{states_in}
use Rattle.kp_until_run.proofs.hunt.repeats.Goals as goal

pub returns-then-back-retired : goal.returns-then-back-retired
returns-then-back-retired c p rep = c.loop-back.invariant p (let w = rep.within in omega (arith, w, c.if-back-retired.true)) rep

pub returns-then-is_same : goal.returns-then-is_same
returns-then-is_same c = record {
  some = c.loop-back.auto.back;
  few = omega (arith, c.loop-back-test.true);
  within = omega (arith, c.if-back-retired.false);
  same = c.is_same.ensures.yes c.if-is_same.true;
}

pub loop-back-preserved : goal.loop-back-preserved
loop-back-preserved c p below rep = ⊎_elim
    (λ (l : p < c.loop-back.back). c.loop-back.invariant p l rep)
    (λ (l : c.loop-back.back ≤ p).
    let job = c.args._job.now.design.job in
    let s = states_in job c.args._limit in
    let same : p ≡ c.loop-back.back = omega (arith, l, below) in
    c.is_same.ensures.no c.if-is_same.false (subst (λ (q : ℕ). AreSame job (s (c.args.retired - q)) (s c.args.retired)) same rep.same))
    (cases_lt p c.loop-back.back)

pub returns : goal.returns
returns c p rep = c.loop-back.invariant p (let f = rep.few in omega (arith, f, c.loop-back-test.false)) rep
