-- Tokens from the front of a text on.
use Rattle.std.proofs.Common.{◌≡◌, ◌∙◌, ℕ, ◌+◌, List, [], ◌∷◌, ◌++◌, take, drop, Bool, true, false, refl, ap, sym, subst, add-one, arith, append_assoc}
use Rattle.std.{proofs.lemmas.List.append-nil, specs.Prelude.not}
use Rattle.kp_base.specs.Characters.{run_length}
use Rattle.kp_vcd.specs.Words.{is_layout, ended, words_from}

abbrev pub is_part : ℕ → Bool
is_part byte = not (is_layout byte)

-- ---- layout

layout_step : (front : List ℕ) (b : ℕ) (rest : List ℕ) (n : ℕ) → words_from (front ++ b ∷ []) [] rest ≡ words_from ((front ++ b ∷ []) ++ take n rest) [] (drop n rest)
    → words_from (front ++ b ∷ []) [] rest ≡ words_from (front ++ take (n + 1) (b ∷ rest)) [] (drop (n + 1) (b ∷ rest))
layout_step front b rest n e =
    e
    ∙ ap (λ (f : List ℕ). words_from f [] (drop n rest)) (append_assoc front (b ∷ []) (take n rest))
    ∙ ap (λ (m : ℕ). words_from (front ++ take m (b ∷ rest)) [] (drop m (b ∷ rest))) (sym (add-one n))

pub layout_skipped : (front text : List ℕ)
    → words_from front [] text ≡ words_from (front ++ take (run_length is_layout text) text) [] (drop (run_length is_layout text) text)
layout_skipped front [] = ap (λ (f : List ℕ). words_from f [] []) (sym (append-nil front))
layout_skipped front (b ∷ rest) = go (is_layout b) refl (layout_skipped (front ++ b ∷ []) rest)
  where
    go : (t : Bool) → is_layout b ≡ t
        → words_from (front ++ b ∷ []) [] rest ≡ words_from ((front ++ b ∷ []) ++ take (run_length is_layout rest) rest) [] (drop (run_length is_layout rest) rest)
        → words_from front [] (b ∷ rest) ≡ words_from (front ++ take (run_length is_layout (b ∷ rest)) (b ∷ rest)) [] (drop (run_length is_layout (b ∷ rest)) (b ∷ rest))
    go true e further = rw e (layout_step front b rest (run_length is_layout rest) further)
    go false e further =
        let none : run_length is_layout (b ∷ rest) ≡ 0 = rw e refl in
        subst (λ (m : ℕ). words_from front [] (b ∷ rest) ≡ words_from (front ++ take m (b ∷ rest)) [] (drop m (b ∷ rest))) (sym none)
        (ap (λ (f : List ℕ). words_from f [] (b ∷ rest)) (sym (append-nil front)))

-- ---- a token

word_step : (front bytes : List ℕ) (b : ℕ) (rest : List ℕ) (n : ℕ)
    → words_from front (bytes ++ b ∷ []) rest ≡ ended front ((bytes ++ b ∷ []) ++ take n rest) (words_from (front ++ ((bytes ++ b ∷ []) ++ take n rest)) [] (drop n rest))
    → words_from front (bytes ++ b ∷ []) rest ≡ ended front (bytes ++ take (n + 1) (b ∷ rest)) (words_from (front ++ (bytes ++ take (n + 1) (b ∷ rest))) [] (drop (n + 1) (b ∷ rest)))
word_step front bytes b rest n e =
    e
    ∙ ap (λ (w : List ℕ). ended front w (words_from (front ++ w) [] (drop n rest))) (append_assoc bytes (b ∷ []) (take n rest))
    ∙ ap (λ (m : ℕ). ended front (bytes ++ take m (b ∷ rest)) (words_from (front ++ (bytes ++ take m (b ∷ rest))) [] (drop m (b ∷ rest)))) (sym (add-one n))

word_from : (front bytes text : List ℕ)
    → words_from front bytes text
    ≡ ended front (bytes ++ take (run_length is_part text) text) (words_from (front ++ (bytes ++ take (run_length is_part text) text)) [] (drop (run_length is_part text) text))
word_from front bytes [] = ap (λ (w : List ℕ). ended front w []) (sym (append-nil bytes))
word_from front bytes (b ∷ rest) = go (is_layout b) refl (word_from front (bytes ++ b ∷ []) rest)
  where
    go : (t : Bool) → is_layout b ≡ t
        → words_from front (bytes ++ b ∷ []) rest
        ≡ ended front ((bytes ++ b ∷ []) ++ take (run_length is_part rest) rest) (words_from (front ++ ((bytes ++ b ∷ []) ++ take (run_length is_part rest) rest)) [] (drop (run_length is_part rest) rest))
        → words_from front bytes (b ∷ rest)
        ≡ ended front (bytes ++ take (run_length is_part (b ∷ rest)) (b ∷ rest)) (words_from (front ++ (bytes ++ take (run_length is_part (b ∷ rest)) (b ∷ rest))) [] (drop (run_length is_part (b ∷ rest)) (b ∷ rest)))
    go true e further =
        rw (e, append-nil bytes, e)
        (ap (λ (f : List ℕ). ended front bytes (words_from f [] rest)) (sym (append_assoc front bytes (b ∷ []))))
    go false e further = rw e (word_step front bytes b rest (run_length is_part rest) further)

pub word_taken : (front text : List ℕ)
    → words_from front [] text ≡ ended front (take (run_length is_part text) text) (words_from (front ++ take (run_length is_part text) text) [] (drop (run_length is_part text) text))
word_taken front text = word_from front [] text

-- ---- the end

-- if no token follows layout, the text ends
pub nothing_left : (text : List ℕ) → run_length is_part (drop (run_length is_layout text) text) ≡ 0 → drop (run_length is_layout text) text ≡ []
nothing_left [] e = refl
nothing_left (b ∷ rest) e = go (is_layout b) refl (nothing_left rest) e
  where
    go : (t : Bool) → is_layout b ≡ t → (run_length is_part (drop (run_length is_layout rest) rest) ≡ 0 → drop (run_length is_layout rest) rest ≡ [])
        → run_length is_part (drop (run_length is_layout (b ∷ rest)) (b ∷ rest)) ≡ 0 → drop (run_length is_layout (b ∷ rest)) (b ∷ rest) ≡ []
    go true is further none = rw (is, add-one) (further (rw (is, add-one) at none))
    go false is further none = absurd (let some : run_length is_part rest + 1 ≡ 0 = rw (is, is) at none in omega (arith, some))
