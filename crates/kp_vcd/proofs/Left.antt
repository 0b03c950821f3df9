-- One token less is left.
use Rattle.std.proofs.Common.{◌≡◌, ◌∙◌, ℕ, ◌+◌, ◌-◌, ◌≤◌, List, [], ◌∷◌, ◌++◌, length, take, drop, refl, ap, ap₂, sym, arith, length-take, length-drop}
use Rattle.std.proofs.{lemmas.List.take_all, lemmas.List.drop-drop, Math.Seq.take-add}
use Rattle.kp_base.specs.{Characters.run_length, Place.place_after}
use Rattle.kp_vcd.specs.{Words.is_layout, Words.Spot, Words.ended, Words.words_from, inner.Left.left_at, inner.Left.spot_at}
use Rattle.kp_vcd.proofs.Spots.{is_part, layout_skipped, word_taken, nothing_left}

whole_rest : (text : List ℕ) (i : ℕ) → take (length text - i) (drop i text) ≡ drop i text
whole_rest text i = take_all (length text - i) (drop i text) (omega (arith, length-drop i text))

ended_is : (front w : List ℕ) (spots : List Spot) → 1 ≤ length w → ended front w spots ≡ record { place = place_after front; bytes = w } ∷ spots
ended_is front [] spots h = absurd (omega (arith, h))
ended_is front (b ∷ bs) spots h = refl

module _ (text : List ℕ) (i gap : ℕ) (gap_is : gap ≡ run_length is_layout (take (length text - i) (drop i text))) where
  abbrev start : ℕ
  start = i + gap

  gap_here : gap ≡ run_length is_layout (drop i text)
  gap_here = gap_is ∙ ap (run_length is_layout) (whole_rest text i)

  skipped : words_from (take i text) [] (drop i text) ≡ words_from (take start text) [] (drop start text)
  skipped =
      layout_skipped (take i text) (drop i text)
      ∙ ap (λ (g : ℕ). words_from (take i text ++ take g (drop i text)) [] (drop g (drop i text))) (sym gap_here)
      ∙ ap₂ (λ (f r : List ℕ). words_from f [] r) (sym (take-add i gap text)) (drop-drop gap i text)

  module _ (len : ℕ) (len_is : len ≡ run_length is_part (take (length text - start) (drop start text))) where
    len_here : len ≡ run_length is_part (drop start text)
    len_here = len_is ∙ ap (run_length is_part) (whole_rest text start)

    taken : words_from (take start text) [] (drop start text)
        ≡ ended (take start text) (take len (drop start text)) (words_from (take (start + len) text) [] (drop (start + len) text))
    taken =
        word_taken (take start text) (drop start text)
        ∙ ap (λ (n : ℕ). ended (take start text) (take n (drop start text)) (words_from (take start text ++ take n (drop start text)) [] (drop n (drop start text)))) (sym len_here)
        ∙ ap₂ (λ (f r : List ℕ). ended (take start text) (take len (drop start text)) (words_from f [] r)) (sym (take-add start len text)) (drop-drop len start text)

    -- a token is left
    pub next_word : (bytes : List ℕ) → bytes ≡ take len (drop start text) → 1 ≤ len → len ≤ length (drop start text)
        → (left_at text i).words ≡ spot_at text start bytes ∷ (left_at text (start + len)).words
    unfolding left_at
    next_word bytes is some within =
        skipped ∙ taken
        ∙ ended_is (take start text) (take len (drop start text)) (words_from (take (start + len) text) [] (drop (start + len) text))
        (let l = length-take len (drop start text) in omega (arith, l, some, within))
        ∙ ap (λ (w : List ℕ). spot_at text start w ∷ words_from (take (start + len) text) [] (drop (start + len) text)) (sym is)

    -- none is left
    pub no_word : len ≡ 0 → (left_at text i).words ≡ []
    unfolding left_at
    no_word none =
        let left : drop start text ≡ [] =
        ap (λ (g : ℕ). drop (i + g) text) gap_here ∙ sym (drop-drop (run_length is_layout (drop i text)) i text)
        ∙ nothing_left (drop i text)
        (ap (run_length is_part) (drop-drop (run_length is_layout (drop i text)) i text ∙ ap (λ (g : ℕ). drop (i + g) text) (sym gap_here)) ∙ sym len_here ∙ none) in
        skipped ∙ ap (λ (r : List ℕ). words_from (take start text) [] r) left

pub same_end : (text : List ℕ) (i j : ℕ) → (left_at text i).end ≡ (left_at text j).end
unfolding left_at
same_end text i j = refl

pub part_is : (text : List ℕ) (start len : ℕ) → take (start + len - start) (drop start text) ≡ take len (drop start text)
part_is text start len = let e : start + len - start ≡ len = omega arith in ap (λ (n : ℕ). take n (drop start text)) e

pub within_is : (text : List ℕ) (start len : ℕ) → len ≤ length (take (length text - start) (drop start text)) → len ≤ length (drop start text)
within_is text start len h = let e = ap length (whole_rest text start) in omega (arith, h, e)
