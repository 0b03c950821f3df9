use Rattle.std.proofs.Common.{◌≡◌, ◌∙◌, ◌<◌, ◌≤◌, ℕ, get_or, ap, sym, subst, arith, ⊎_elim}
use Rattle.std.proofs.lemmas.Bool.{cases_lt}
use Rattle.kp_bits.specs.Word.{Word}
use Rattle.kp_until_run.{specs.inner.Histories.address_at, proofs.Histories.same_between}
use Rattle.kp_until_run.proofs.history.History.is_same.Goals as goal

pub returns-then-value-clause-no : goal.returns-then-value-clause-no
returns-then-value-clause-no c none f size is near order there all =
    let h = c.args.self.now in
    let i = c.loop-i.i in
    let first : c.args.c ≤ i = c.loop-i.auto.i in
    let at : get_or h.addresses c.slot.result 0 ≡ address_at h i = ap (λ (k : ℕ). get_or h.addresses k 0) c.slot.ensures.value in
    let low : get_or h.addresses c.slot.result 0 < size = let w = is.within i in omega (arith, w, is.size_is, at) in
    let e : c.value.result ≡ c.value-in-loop-i.result =
    c.value.ensures.value
    ∙ ap (λ (w : Word). w.value) (c.word_after.ensures.before f size is near (omega (arith, order, there)))
    ∙ all (get_or h.addresses c.slot.result 0) low
    ∙ ap (λ (w : Word). w.value) (sym (c.word_after-in-loop-i.ensures.before f size is (omega (arith, near, order)) there))
    ∙ sym c.value-in-loop-i.ensures.value in
    absurd (omega (arith, e, c.if-value.true))

pub loop-i-preserved : goal.loop-i-preserved
loop-i-preserved c f size is near there k from below = ⊎_elim
    (λ (l : k < c.loop-i.i). c.loop-i.invariant f size is near there k from l)
    (λ (l : c.loop-i.i ≤ k).
    let h = c.args.self.now in
    let same : c.loop-i.i ≡ k = omega (arith, l, below) in
    let at : get_or h.addresses c.slot.result 0 ≡ address_at h k = ap (λ (j : ℕ). get_or h.addresses j 0) c.slot.ensures.value ∙ ap (address_at h) same in
    let first : c.args.c ≤ c.loop-i.i = c.loop-i.auto.i in
    let test = c.loop-i-test.true in
    let end = c.min-i-end.ensures in
    let e : (f c.args.c (get_or h.addresses c.slot.result 0)).value ≡ (f c.args.d (get_or h.addresses c.slot.result 0)).value =
    ap (λ (w : Word). w.value) (sym (c.word_after.ensures.before f size is near (omega (arith, first, test, end, there))))
    ∙ sym c.value.ensures.value
    ∙ (let v : c.value.result ≡ c.value-in-loop-i.result = omega (arith, c.if-value.false) in v)
    ∙ c.value-in-loop-i.ensures.value
    ∙ ap (λ (w : Word). w.value) (c.word_after-in-loop-i.ensures.before f size is (omega (arith, near, first, test, end, there)) there) in
    subst (λ (a : ℕ). (f c.args.c a).value ≡ (f c.args.d a).value) at e)
    (cases_lt k c.loop-i.i)

pub returns-clause-yes : goal.returns-clause-yes
returns-clause-yes c none f size is near order there a low =
    same_between f size c.args.c c.args.d a c.args.self.now is near order there low
    (λ k from below. c.loop-i.invariant f size is near there k from (omega (arith, below, there, c.loop-i-test.false, c.min-i-end.ensures)))
