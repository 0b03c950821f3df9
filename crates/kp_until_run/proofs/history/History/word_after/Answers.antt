use Rattle.std.proofs.Common.{◌≡◌, ◌∙◌, ◌<◌, ◌≤◌, ℕ, get_or, ap, sym, arith}
use Rattle.std.proofs.lemmas.List.{get_or_default}
use Rattle.kp_bits.specs.{Operators.no_word}
use Rattle.kp_until_run.{specs.inner.Histories.address_at, proofs.Histories.changed_here, proofs.Histories.kept_here}
use Rattle.kp_until_run.proofs.history.History.word_after.Goals as goal

pub returns-then-self-slot-clause-before : goal.returns-then-self-slot-clause-before
returns-then-self-slot-clause-before c f size is near order =
    let h = c.args.self.now in
    let i = c.loop-i.i in
    let low : c.args.address < size = omega (arith, c.requires, is.size_is) in
    let first : c.args.c ≤ i = c.loop-i.auto.i in
    let at : get_or h.addresses c.slot.result 0 ≡ address_at h i = ap (λ (k : ℕ). get_or h.addresses k 0) c.slot.ensures.value in
    get_or_default h.olds c.slot-then-self-slot.result c.index-self-slot.result no_word (omega (arith, is.olds, c.slot-then-self-slot.ensures.few))
    ∙ ap (λ (k : ℕ). get_or h.olds k no_word) c.slot-then-self-slot.ensures.value
    ∙ sym (changed_here f size i c.args.address h is (omega (arith, near, first)) (omega (arith, c.loop-i-test.true)) low (sym at ∙ c.if-self-slot.true))
    ∙ sym (c.loop-i.invariant f size is near order)

pub loop-i-preserved : goal.loop-i-preserved
loop-i-preserved c f size is near order =
    let h = c.args.self.now in
    let i = c.loop-i.i in
    let low : c.args.address < size = omega (arith, c.requires, is.size_is) in
    let first : c.args.c ≤ i = c.loop-i.auto.i in
    let at : get_or h.addresses c.slot.result 0 ≡ address_at h i = ap (λ (k : ℕ). get_or h.addresses k 0) c.slot.ensures.value in
    c.loop-i.invariant f size is near order
    ∙ kept_here f size i c.args.address h is (omega (arith, near, first)) (omega (arith, c.loop-i-test.true)) low (λ e. absurd (omega (arith, at, e, c.if-self-slot.false)))

pub returns-clause-before : goal.returns-clause-before
returns-clause-before c f size is near order =
    let h = c.args.self.now in
    let low : c.args.address < size = omega (arith, c.requires, is.size_is) in
    let all : c.loop-i.i ≡ h.count = omega (arith, c.loop-i-test.false, c.loop-i.auto.i-end, order) in
    c.index.ensures ∙ is.now c.args.address _ low ∙ ap (λ (j : ℕ). f j c.args.address) (sym all) ∙ sym (c.loop-i.invariant f size is near order)
