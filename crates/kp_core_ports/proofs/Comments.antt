-- A line is cut at its first `//`.
use Rattle.std.proofs.Common.{◌≡◌, ℕ, zero, suc, ◌+◌, ◌-◌, ◌<◌, ◌≤◌, Bool, true, false, cond, List, [], ◌∷◌, length, get_or, sym, ap, ◌∙◌, arith}
use Rattle.std.specs.Prelude.{slice_range}
use Rattle.kp_base.proofs.Splitting.{range_head, range_empty}
use Rattle.kp_core_ports.specs.Ports.{begins_comment, uncommented}

module _ (text : List ℕ) (e : ℕ) where
  -- no comment begins between two offsets
  abbrev pub Clean : ℕ → ℕ → Type 0
  Clean a i = (k : ℕ) → a ≤ k → k < i → begins_comment (slice_range text k e) ≡ false

  abbrev rest : ℕ → List ℕ
  rest a = uncommented (slice_range text a e)

  one_step : (a : ℕ) (on : Bool) → a < e → e ≤ length text → begins_comment (slice_range text a e) ≡ on → rest a ≡ cond on [] (get_or text a 0 ∷ rest (a + 1))
  one_step a on h within is =
      let head : slice_range text a e ≡ get_or text a 0 ∷ slice_range text (a + 1) e = range_head text a e h within in
      ap uncommented head
      ∙ ap (λ (b : Bool). cond b [] (get_or text a 0 ∷ rest (a + 1))) (sym (ap begins_comment head) ∙ is)

  cut_from : (d a i : ℕ) → a + d ≡ i → i < e → e ≤ length text → Clean a i → begins_comment (slice_range text i e) ≡ true → rest a ≡ slice_range text a i
  cut_from zero a i d h within clean on =
      let here : a ≡ i = omega arith in
      ap rest here ∙ one_step i true h within on ∙ sym (range_empty text a i (omega arith))
  cut_from (suc d) a i s h within clean on =
      one_step a false (omega arith) within (clean a (omega arith) (omega arith))
      ∙ ap (λ (bs : List ℕ). get_or text a 0 ∷ bs) (cut_from d (a + 1) i (omega arith) h within (λ k x y. clean k (omega arith) y) on)
      ∙ sym (range_head text a i (omega arith) (omega arith))

  whole_from : (d a : ℕ) → a + d ≡ e → e ≤ length text → Clean a e → rest a ≡ slice_range text a e
  whole_from zero a d within clean =
      let empty : slice_range text a e ≡ [] = range_empty text a e (omega arith) in
      ap uncommented empty ∙ sym empty
  whole_from (suc d) a s within clean =
      one_step a false (omega arith) within (clean a (omega arith) (omega arith))
      ∙ ap (λ (bs : List ℕ). get_or text a 0 ∷ bs) (whole_from d (a + 1) (omega arith) within (λ k x y. clean k (omega arith) y))
      ∙ sym (range_head text a e (omega arith) within)

  -- the first comment begins at an offset
  pub cut : (a i : ℕ) → a ≤ i → i < e → e ≤ length text → Clean a i → begins_comment (slice_range text i e) ≡ true → rest a ≡ slice_range text a i
  cut a i h = cut_from (i - a) a i (omega arith)

  -- there is none
  pub whole_line : (a : ℕ) → a ≤ e → e ≤ length text → Clean a e → rest a ≡ slice_range text a e
  whole_line a h = whole_from (e - a) a (omega arith)
