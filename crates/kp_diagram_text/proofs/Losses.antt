use Rattle.std.proofs.Common.{◌≡◌, ℕ, suc, ◌+◌, ◌<◌, ◌≤◌, Bool, true, false, cond, Some, None, refl, sym, ap, ◌∙◌, arith, List, ltb, slice_set, length, ⊎_elim}
use Rattle.std.proofs.lemmas.{Bool.cond-true, Bool.cond-false, Bool.cases_eq, Grind.get_or-set_at, List.get_or-set_other}
use Rattle.kp_base.specs.declared.row.Row.{Row}
use Rattle.kp_sched.specs.Rows.{bit_of, row_seen}
use Rattle.kp_diagram.specs.Diagram.{Loss, WrongGuess, loss_of_wait, losses_after, lost_to}
use Rattle.kp_diagram_text.specs.declared.account.Loss as code
use Rattle.kp_diagram_text.specs.declared.account.Loss.TheVariants as losses
use Rattle.kp_diagram_text.{specs.Losses.loss_shown, specs.Losses.losses_shown, proofs.Marks.full_seen, proofs.Marks.squashed_seen, proofs.Marks.ue_seen}

-- THE ACCOUNT, for each way through the code.
pub lost_none : (last word : ℕ) (r : Row) (loss : ℕ → Loss) → bit_of r.ue last ≡ true
    → None ≡ lost_to last (bit_of word) (row_seen (last + 1) r) loss
lost_none last word r loss u = sym (cond-true _ _ _ (ue_seen (last + 1) r last (omega arith) ∙ u))

pub lost_waiting : (last word : ℕ) (r : Row) (loss : ℕ → Loss) (l : Loss) → bit_of r.ue last ≡ false → bit_of r.full last ≡ true
    → l ≡ loss_of_wait (bit_of word) last → Some l ≡ lost_to last (bit_of word) (row_seen (last + 1) r) loss
lost_waiting last word r loss l u f e =
    ap (λ (x : Loss). Some x) e
    ∙ sym (cond-false _ _ _ (ue_seen (last + 1) r last (omega arith) ∙ u)
    ∙ ap (λ (x : Loss). Some x) (cond-true _ _ _ (full_seen (last + 1) r last (omega arith) ∙ f)))

pub lost_empty : (last word : ℕ) (r : Row) (loss : ℕ → Loss) (l : Loss) → bit_of r.ue last ≡ false → bit_of r.full last ≡ false
    → l ≡ loss last → Some l ≡ lost_to last (bit_of word) (row_seen (last + 1) r) loss
lost_empty last word r loss l u f e =
    ap (λ (x : Loss). Some x) e
    ∙ sym (cond-false _ _ _ (ue_seen (last + 1) r last (omega arith) ∙ u)
    ∙ ap (λ (x : Loss). Some x) (cond-false _ _ _ (full_seen (last + 1) r last (omega arith) ∙ f)))

above-is : (word : ℕ) (n : ℕ) (r : Row) (loss : ℕ → Loss) (k : ℕ) (squashed full : Bool) → k < n → ltb k r.back ≡ squashed
    → bit_of r.full k ≡ full
    → losses_after (bit_of word) (row_seen n r) loss (suc k) ≡ cond squashed WrongGuess (cond full (loss_of_wait (bit_of word) k) (loss k))
above-is word n r loss k squashed full b s f = rw (sym (squashed_seen n r k) ∙ s, full_seen n r k b ∙ f) refl

pub above_squashed : (last word : ℕ) (r : Row) (loss : ℕ → Loss) (k : ℕ) → k < last → ltb k r.back ≡ true
    → WrongGuess ≡ losses_after (bit_of word) (row_seen (last + 1) r) loss (k + 1)
above_squashed last word r loss k b s =
    let e : k + 1 ≡ suc k = omega arith in
    rw e (sym (above-is word (last + 1) r loss k true _ (omega arith) s refl))

pub above_waiting : (last word : ℕ) (r : Row) (loss : ℕ → Loss) (k : ℕ) (l : Loss) → k < last → ltb k r.back ≡ false
    → bit_of r.full k ≡ true → l ≡ loss_of_wait (bit_of word) k
    → l ≡ losses_after (bit_of word) (row_seen (last + 1) r) loss (k + 1)
above_waiting last word r loss k l b s f w =
    let e : k + 1 ≡ suc k = omega arith in
    rw e (w ∙ sym (above-is word (last + 1) r loss k false true (omega arith) s f))

pub above_empty : (last word : ℕ) (r : Row) (loss : ℕ → Loss) (k : ℕ) (l : Loss) → k < last → ltb k r.back ≡ false
    → bit_of r.full k ≡ false → l ≡ loss k
    → l ≡ losses_after (bit_of word) (row_seen (last + 1) r) loss (k + 1)
above_empty last word r loss k l b s f w =
    let e : k + 1 ≡ suc k = omega arith in
    rw e (w ∙ sym (above-is word (last + 1) r loss k false false (omega arith) s f))

-- what the loop keeps where it sets the loss of one stage more
pub set_above : (xs : List code.Loss) (i k : ℕ) (x : code.Loss) (f : ℕ → Loss) → length xs ≡ 12 → i ≡ k + 1 → k + 1 < 12
    → ((j : ℕ) → j ≤ k → losses_shown xs j ≡ f j) → loss_shown x ≡ f (k + 1)
    → (j : ℕ) → j ≤ k + 1 → losses_shown (slice_set xs i x) j ≡ f j
set_above xs i k x f l e b h s j a = ⊎_elim
    (λ (w : j ≡ k + 1). rw w (ap loss_shown (get_or-set_at xs i (k + 1) x losses.Filling (omega arith) (omega arith)) ∙ s))
    (λ w. ap loss_shown (get_or-set_other xs i j x losses.Filling (λ y. w (omega arith))) ∙ h j (omega arith))
    (cases_eq j (k + 1))
