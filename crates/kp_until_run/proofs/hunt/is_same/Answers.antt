use Rattle.std.proofs.Common.{◌≡◌, ◌-◌, ◌<◌, ◌≤◌, ℕ, length, sym, subst, arith, ⊎_elim}
use Rattle.std.proofs.lemmas.Bool.{cases_lt}
use Rattle.kp_machine.specs.{Slots.targets_of, Words.HasWord}
use Rattle.kp_until_run.{specs.Ending.states_in, specs.inner.Pasts.IsHistory, proofs.Pasts.other_then, proofs.Pasts.same_then}
use Rattle.kp_until_run.proofs.hunt.is_same.Goals as goal

pub returns-then-not-same-clause-no : goal.returns-then-not-same-clause-no
returns-then-not-same-clause-no c none same =
    let a = c.args in
    let job = a._job.now.design.job in
    let t = c.loop-t.t in
    let h = c.index-histories-t.result in
    let low : t < length (targets_of job.decls) = omega (arith, c.loop-t-test.true, c.requires.histories.count) in
    let is = subst (IsHistory job a._limit a._cycle t) (sym c.index-histories-t.is) (c.requires.histories.each t h low) in
    other_then job a._limit a._cycle t h c.requires.near is a.retired (a.retired - a.back) c.requires.retired (omega arith) (omega (arith, c.requires.few)) c.is_same-same.result low
    c.is_same-same.ensures.no c.is_same-same.ensures.all c.if-not-same.true same

pub loop-t-preserved : goal.loop-t-preserved
loop-t-preserved c u b below there = ⊎_elim
    (λ (l : u < c.loop-t.t). c.loop-t.invariant u b l there)
    (λ (l : c.loop-t.t ≤ u).
    let a = c.args in
    let job = a._job.now.design.job in
    let t = c.loop-t.t in
    let h = c.index-histories-t.result in
    let same : u ≡ t = omega (arith, l, below) in
    let low : t < length (targets_of job.decls) = omega (arith, c.loop-t-test.true, c.requires.histories.count) in
    let is = subst (IsHistory job a._limit a._cycle t) (sym c.index-histories-t.is) (c.requires.histories.each t h low) in
    subst (λ (v : ℕ). states_in job a._limit (a.retired - a.back) v b ≡ states_in job a._limit a.retired v b) (sym same)
    (same_then job a._limit a._cycle t h c.requires.near is a.retired (a.retired - a.back) c.requires.retired (omega arith) (omega (arith, c.requires.few)) c.is_same-same.result
    c.is_same-same.ensures.yes c.if-not-same.false b (subst (λ (v : ℕ). HasWord job v b) same there)))
    (cases_lt u c.loop-t.t)
