-- Words of targets are written, and their ports are laid out.
use Rattle.std.proofs.Common.{◌≡◌, ◌∙◌, ℕ, suc, ◌+◌, ◌-◌, ◌^◌, ◌<◌, ◌≤◌, List, [], ◌∷◌, ◌++◌, map, Option, length, get_or, set, refl, inl, ap, sym, subst, append_assoc, arith}
use Rattle.std.proofs.lemmas.List.{set_past, set-get_or, get_or-map, get_or_default, map-append}
use Rattle.kp_region.specs.{declared.span.Span.Span, Words.Words, Words.IsSound, Words.span_words, Words.next_span, Words.carved, Words.written, Words.filled, Spans.Apart, Spans.no_span}
use Rattle.kp_region.proofs.{Laid.laid_below, Spans.apart_carved, Spans.apart_still, Spans.length_carved, Spans.length_filled, Spans.fill_stays, Spans.fill_lands, Spans.spans_kept, Spans.write_one}
use Rattle.kp_ast.specs.declared.tree.Decl.{Decl}
use Rattle.kp_machine.specs.Slots.{Slot, result_to}
use Rattle.kp_seq.specs.{declared.tables.Port.Port, inner.Tables.port_of, inner.Tables.ports_from, inner.Steps.with_word}

pub past_targets : (words : List (List ℕ)) (t a v : ℕ) → length words ≤ t → with_word words t a v ≡ words
past_targets words t a v h = set_past words t (set (get_or words t []) a v) h

pub past_words : (words : List (List ℕ)) (t a v : ℕ) → length (get_or words t []) ≤ a → with_word words t a v ≡ words
past_words words t a v h = ap (set words t) (set_past (get_or words t []) a v h) ∙ set-get_or words t []

-- one more port is laid out
pub ports_turn : (ds : List Decl) (targets pipes : List Slot) (t n : ℕ) (done more : List (Option Port)) (p : Option Port) → t < n → p ≡ port_of pipes (result_to targets ds t)
    → more ≡ done ++ p ∷ [] → more ++ ports_from ds targets pipes (t + 1) (n - (t + 1)) ≡ done ++ ports_from ds targets pipes t (n - t)
ports_turn ds targets pipes t n done more p l is e =
    let m : n - t ≡ suc (n - (t + 1)) = omega arith in
    let s : suc t ≡ t + 1 = omega arith in
    ap (λ (xs : List (Option Port)). xs ++ ports_from ds targets pipes (t + 1) (n - (t + 1))) e
    ∙ append_assoc done (p ∷ []) (ports_from ds targets pipes (t + 1) (n - (t + 1)))
    ∙ ap (λ (x : Option Port). done ++ x ∷ ports_from ds targets pipes (t + 1) (n - (t + 1))) is
    ∙ ap (λ (k : ℕ). done ++ port_of pipes (result_to targets ds t) ∷ ports_from ds targets pipes k (n - (t + 1))) (sym s)
    ∙ ap (λ (k : ℕ). done ++ ports_from ds targets pipes t k) (sym m)

-- one more target has a span, with these words
module _ (r : Words) (spans : List Span) (ws : List ℕ) (h : Apart r spans) (room : r.used + length ws ≤ length r.words) (few : length r.words < 2 ^ 32) where
  abbrev span : Span
  span = next_span r (length ws)

  abbrev middle : Words
  middle = carved r (length ws)

  abbrev more : Words
  more = filled middle span ws

  middle_length : length middle.words ≡ length r.words
  middle_length = length_carved r (length ws) room

  middle_sound : IsSound middle
  middle_sound = omega (arith, middle_length, room)

  pub more_length : length more.words ≡ length r.words
  more_length = length_filled middle span ws middle_sound (omega arith) refl ∙ middle_length

  middle_apart : Apart middle (spans ++ span ∷ [])
  middle_apart = apart_carved r spans (length ws) h middle_sound (omega (arith, room, few))

  pub more_apart : Apart more (spans ++ span ∷ [])
  more_apart = apart_still middle more (spans ++ span ∷ []) middle_apart refl (length_filled middle span ws middle_sound (omega arith) refl)

  pub more_words : map (span_words more) (spans ++ span ∷ []) ≡ map (span_words r) spans ++ ws ∷ []
  more_words =
      map-append (span_words more) spans (span ∷ [])
      ∙ ap (λ (l : List (List ℕ)). l ++ span_words more span ∷ []) (spans_kept r more spans
      (λ k l. let s : Span = get_or spans k no_span in
      let within = h.within k l in
      fill_stays middle span ws middle_sound (omega arith) refl s (inl within) ∙ laid_below r.words _ r.used h.sound s.start _ within))
      ∙ ap (λ (l : List ℕ). map (span_words r) spans ++ l ∷ []) (fill_lands middle span ws middle_sound (omega arith) refl)

-- a word of a target is written
pub word_written : (r new : Words) (spans : List Span) (t a v : ℕ) (s d : Span) → Apart r spans → t < length spans → s ≡ get_or spans t d → a < s.len → new ≡ written r s a v
    → map (span_words new) spans ≡ with_word (map (span_words r) spans) t a v
word_written r new spans t a v s d h l is fits e =
    let same : s ≡ get_or spans t no_span = is ∙ get_or_default spans t d no_span l in
    let P : Span → Type 0 = λ x. a < x.len in
    ap (λ (x : Words). map (span_words x) spans) (e ∙ ap (λ (x : Span). written r x a v) same)
    ∙ write_one r spans t a v h l (subst P same fits)
    ∙ ap (λ (xs : List ℕ). set (map (span_words r) spans) t (set xs a v)) (sym (get_or-map (span_words r) spans t no_span [] l))
