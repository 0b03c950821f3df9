-- The latches of registers, in their order.
use Rattle.std.proofs.Common.{◌≡◌, ℕ, ◌+◌, ◌<◌, ◌≤◌, List, [], ◌∷◌, ◌++◌, length, inl, inr, ap, ◌∙◌, arith, ⊎_elim}
use Rattle.std.proofs.lemmas.Bool.{cases_lt}
use Rattle.kp_net.specs.Netlist.{Net}
use Rattle.kp_cycle_plan.specs.declared.latches.{Latch.TheVariants.Always, Latch.TheVariants.If, Held.Held, Moved.Moved}
use Rattle.kp_cycle_plan.specs.Latches.{latch_for, no_moved, no_held, IsMoved, IsHeld, IsLatched}
use Rattle.kp_cycle_plan.proofs.Lists.{each_more, some_more, some_last}

-- one entry more
pub latched_moved : (net : Net) (n : ℕ) (moved : List Moved) (held : List Held) (x : Moved) → x.reg ≡ n → n < length net.parts.regs → latch_for net n ≡ Always x.next → IsLatched net n moved held
    → IsLatched net (n + 1) (moved ++ x ∷ []) held
latched_moved net n moved held x e h latch old = record {
  moves = each_more moved x no_moved (λ k m. (m.reg < length net.parts.regs) × (latch_for net m.reg ≡ Always m.next)) old.moves (omega (arith, e, h), ap (latch_for net) e ∙ latch);
  holds = old.holds;
  each = λ r l. ⊎_elim
      (λ (low : r < n). ⊎_elim (λ (m : IsMoved moved r). inl (some_more moved x no_moved (λ y. y.reg ≡ r) m)) (λ (m : IsHeld held r). inr m) (old.each r low))
      (λ (high : n ≤ r). let z : n ≡ r = omega arith in inl (some_last moved x no_moved (λ y. y.reg ≡ r) (e ∙ z)))
      (cases_lt r n);
}

pub latched_held : (net : Net) (n : ℕ) (moved : List Moved) (held : List Held) (x : Held) → x.reg ≡ n → n < length net.parts.regs → latch_for net n ≡ If x.test x.value → IsLatched net n moved held
    → IsLatched net (n + 1) moved (held ++ x ∷ [])
latched_held net n moved held x e h latch old = record {
  moves = old.moves;
  holds = each_more held x no_held (λ k m. (m.reg < length net.parts.regs) × (latch_for net m.reg ≡ If m.test m.value)) old.holds (omega (arith, e, h), ap (latch_for net) e ∙ latch);
  each = λ r l. ⊎_elim
      (λ (low : r < n). ⊎_elim (λ (m : IsMoved moved r). inl m) (λ (m : IsHeld held r). inr (some_more held x no_held (λ y. y.reg ≡ r) m)) (old.each r low))
      (λ (high : n ≤ r). let z : n ≡ r = omega arith in inr (some_last held x no_held (λ y. y.reg ≡ r) (e ∙ z)))
      (cases_lt r n);
}
