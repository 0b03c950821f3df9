-- Pieces of a text are found in order.
use Rattle.std.proofs.Common.{◌≡◌, ℕ, zero, suc, ◌+◌, ◌-◌, ◌<◌, ◌≤◌, Bool, true, false, cond, List, [], ◌∷◌, ◌++◌, length, get_or, take, drop, map, All, refl, sym, subst, ap, ◌∙◌, append_assoc, arith}
use Rattle.std.proofs.lemmas.{List.drop_more, List.map-append, List.Edits.length-between, Bool.Decides.nat_tests}
use Rattle.std.specs.Prelude.{slice_range, filter, nat_lt}
use Rattle.kp_base.specs.{Lines.Piece, Lines.IsWithin, Lines.pieces, Lines.piece_of, Lines.lengthened, Lines.is_blank, Lines.is_break, declared.run.Run.Run}
use Rattle.kp_base.specs.inner.Words.{word_between}

-- the first byte of a part of a text
pub range_head : (text : List ℕ) (a e : ℕ) → a < e → e ≤ length text → slice_range text a e ≡ get_or text a 0 ∷ slice_range text (a + 1) e
range_head text a e h within =
    let more : e - a ≡ suc (e - (a + 1)) = omega arith in
    ap (take (e - a)) (drop_more text a 0 (omega arith)) ∙ ap (λ (n : ℕ). take n (get_or text a 0 ∷ drop (a + 1) text)) more

pub range_empty : (text : List ℕ) (a e : ℕ) → e ≤ a → slice_range text a e ≡ []
range_empty text a e h = let none : e - a ≡ 0 = omega arith in ap (λ (n : ℕ). take n (drop a text)) none

module _ (separates : ℕ → Bool) (text : List ℕ) where
  -- there is no separator between two offsets
  abbrev pub Clean : ℕ → ℕ → Type 0
  Clean a i = (k : ℕ) → a ≤ k → k < i → separates (get_or text k 0) ≡ false

  -- the pieces between two offsets
  abbrev pub between : ℕ → ℕ → List Piece
  between a e = pieces separates a (slice_range text a e)

  abbrev piece : ℕ → ℕ → Piece
  piece a e = record { at = a; bytes = slice_range text a e }

  one_step : (a e : ℕ) → a < e → e ≤ length text → separates (get_or text a 0) ≡ false → between a e ≡ lengthened a (get_or text a 0) (between (a + 1) e)
  one_step a e h within other =
      ap (pieces separates a) (range_head text a e h within)
      ∙ ap (λ (b : Bool). cond b (record { at = a; bytes = [] } ∷ between (a + 1) e) (lengthened a (get_or text a 0) (between (a + 1) e))) other

  grown : (a i : ℕ) (ps : List Piece) → a < i → i ≤ length text → lengthened a (get_or text a 0) (piece (a + 1) i ∷ ps) ≡ piece a i ∷ ps
  grown a i ps h within = ap (λ (bs : List ℕ). record { at = a; bytes = bs } ∷ ps) (sym (range_head text a i h within))

  -- up to a separator
  first_from : (d a i e : ℕ) → a + d ≡ i → i < e → e ≤ length text → Clean a i → separates (get_or text i 0) ≡ true → between a e ≡ piece a i ∷ between (i + 1) e
  first_from zero a i e d h within clean on =
      let here : a ≡ i = omega arith in
      let first : between i e ≡ record { at = i; bytes = [] } ∷ between (i + 1) e =
      ap (pieces separates i) (range_head text i e h within)
      ∙ ap (λ (b : Bool). cond b (record { at = i; bytes = [] } ∷ between (i + 1) e) (lengthened i (get_or text i 0) (between (i + 1) e))) on in
      let empty : slice_range text i i ≡ [] = range_empty text i i (omega arith) in
      ap (λ (n : ℕ). between n e) here ∙ first ∙ ap (λ (bs : List ℕ). record { at = i; bytes = bs } ∷ between (i + 1) e) (sym empty)
      ∙ ap (λ (n : ℕ). piece n i ∷ between (i + 1) e) (sym here)
  first_from (suc d) a i e s h within clean on =
      one_step a e (omega arith) within (clean a (omega arith) (omega arith))
      ∙ ap (lengthened a (get_or text a 0)) (first_from d (a + 1) i e (omega arith) h within (λ k x y. clean k (omega arith) y) on)
      ∙ grown a i (between (i + 1) e) (omega arith) (omega arith)

  pub first_piece : (a i e : ℕ) → a ≤ i → i < e → e ≤ length text → Clean a i → separates (get_or text i 0) ≡ true → between a e ≡ piece a i ∷ between (i + 1) e
  first_piece a i e h = first_from (i - a) a i e (omega arith)

  -- up to the end
  last_from : (d a e : ℕ) → a + d ≡ e → e ≤ length text → Clean a e → between a e ≡ piece a e ∷ []
  last_from zero a e d within clean =
      let empty : slice_range text a e ≡ [] = range_empty text a e (omega arith) in
      ap (pieces separates a) empty ∙ ap (λ (bs : List ℕ). record { at = a; bytes = bs } ∷ []) (sym empty)
  last_from (suc d) a e s within clean =
      one_step a e (omega arith) within (clean a (omega arith) (omega arith))
      ∙ ap (lengthened a (get_or text a 0)) (last_from d (a + 1) e (omega arith) within (λ k x y. clean k (omega arith) y))
      ∙ grown a e [] (omega arith) within

  pub last_piece : (a e : ℕ) → a ≤ e → e ≤ length text → Clean a e → between a e ≡ piece a e ∷ []
  last_piece a e h = last_from (e - a) a e (omega arith)

-- the tokens and the lines that are still to be found
abbrev pub is_word : Piece → Bool
is_word p = nat_lt 0 (length p.bytes)

abbrev pub words_left : List ℕ → ℕ → ℕ → List Piece
words_left text a e = filter is_word (between is_blank text a e)

abbrev pub lines_left : List ℕ → ℕ → List Piece
lines_left text a = between is_break text a (length text)

nil_behind : (ps : List Piece) → ps ++ [] ≡ ps
nil_behind [] = refl
nil_behind (p ∷ ps) = ap (λ (l : List Piece). p ∷ l) (nil_behind ps)

-- the bytes between two offsets are a token, unless there are none
module _ (text : List ℕ) (a e : ℕ) (ps : List Piece) where
  by_cases : (t : Bool) → cond t (record { at = a; bytes = slice_range text a e } ∷ filter is_word ps) (filter is_word ps)
      ≡ map (piece_of text) (cond t (record { at = a; end = e } ∷ []) []) ++ filter is_word ps
  by_cases true = refl
  by_cases false = refl

  pub one_word : a ≤ e → e ≤ length text → filter is_word (record { at = a; bytes = slice_range text a e } ∷ ps) ≡ map (piece_of text) (word_between a e) ++ filter is_word ps
  one_word h within =
      let many : length (slice_range text a e) ≡ e - a = length-between text a e within in
      let test : nat_lt 0 (length (slice_range text a e)) ≡ nat_lt a e = grind (arith, nat_tests, many) in
      ap (λ (t : Bool). cond t (record { at = a; bytes = slice_range text a e } ∷ filter is_word ps) (filter is_word ps)) test ∙ by_cases (nat_lt a e)

-- one token more
pub words_more : (text : List ℕ) (a i e : ℕ) (old new : List Run) → a ≤ i → i < e → e ≤ length text → Clean is_blank text a i → is_blank (get_or text i 0) ≡ true
    → new ≡ old ++ word_between a i → map (piece_of text) new ++ words_left text (i + 1) e ≡ map (piece_of text) old ++ words_left text a e
words_more text a i e old new h l within clean on is =
    let word : List Piece = map (piece_of text) (word_between a i) in
    let rest : List Piece = words_left text (i + 1) e in
    let split : words_left text a e ≡ word ++ rest =
    ap (filter is_word) (first_piece is_blank text a i e h l within clean on) ∙ one_word text a i (between is_blank text (i + 1) e) h (omega arith) in
    ap (λ (ws : List Run). map (piece_of text) ws ++ rest) is
    ∙ ap (λ (ps : List Piece). ps ++ rest) (map-append (piece_of text) old (word_between a i))
    ∙ append_assoc (map (piece_of text) old) word rest
    ∙ ap (λ (ps : List Piece). map (piece_of text) old ++ ps) (sym split)

pub words_last : (text : List ℕ) (a e : ℕ) (old new : List Run) → a ≤ e → e ≤ length text → Clean is_blank text a e → new ≡ old ++ word_between a e
    → map (piece_of text) new ≡ map (piece_of text) old ++ words_left text a e
words_last text a e old new h within clean is =
    let word : List Piece = map (piece_of text) (word_between a e) in
    let last : words_left text a e ≡ word ++ [] = ap (filter is_word) (last_piece is_blank text a e h within clean) ∙ one_word text a e [] h within in
    ap (map (piece_of text)) is ∙ map-append (piece_of text) old (word_between a e) ∙ ap (λ (ps : List Piece). map (piece_of text) old ++ ps) (sym (nil_behind word) ∙ sym last)

pub word_within : (text : List ℕ) (a e : ℕ) → a ≤ e → e ≤ length text → All (IsWithin text) (word_between a e)
word_within text a e h within = go (nat_lt a e)
  where
    go : (b : Bool) → All (IsWithin text) (cond b (record { at = a; end = e } ∷ []) [])
    go true = λ k d l. (let z : k ≡ 0 = omega arith in subst (λ (n : ℕ). IsWithin text (get_or (record { at = a; end = e } ∷ []) n d)) (sym z) (h, within))
    go false = λ k d l. absurd (omega arith)

pub run_within : (text : List ℕ) (a e : ℕ) → a ≤ e → e ≤ length text → All (IsWithin text) (record { at = a; end = e } ∷ [])
run_within text a e h within =
    λ k d l. (let z : k ≡ 0 = omega arith in subst (λ (n : ℕ). IsWithin text (get_or (record { at = a; end = e } ∷ []) n d)) (sym z) (h, within))

-- one line more
pub lines_more : (text : List ℕ) (a i e : ℕ) (old new : List Run) → a ≤ i → i < e → e ≤ length text → Clean is_break text a i → is_break (get_or text i 0) ≡ true
    → new ≡ old ++ record { at = a; end = i } ∷ [] → map (piece_of text) new ++ between is_break text (i + 1) e ≡ map (piece_of text) old ++ between is_break text a e
lines_more text a i e old new h l within clean on is =
    let line : List Piece = map (piece_of text) (record { at = a; end = i } ∷ []) in
    let rest : List Piece = between is_break text (i + 1) e in
    ap (λ (ws : List Run). map (piece_of text) ws ++ rest) is
    ∙ ap (λ (ps : List Piece). ps ++ rest) (map-append (piece_of text) old (record { at = a; end = i } ∷ []))
    ∙ append_assoc (map (piece_of text) old) line rest
    ∙ ap (λ (ps : List Piece). map (piece_of text) old ++ ps) (sym (first_piece is_break text a i e h l within clean on))

-- the last one
pub lines_last : (text : List ℕ) (a e : ℕ) (old new : List Run) → a ≤ e → e ≤ length text → Clean is_break text a e → new ≡ old ++ record { at = a; end = e } ∷ []
    → map (piece_of text) new ≡ map (piece_of text) old ++ between is_break text a e
lines_last text a e old new h within clean is =
    ap (map (piece_of text)) is ∙ map-append (piece_of text) old (record { at = a; end = e } ∷ [])
    ∙ ap (λ (ps : List Piece). map (piece_of text) old ++ ps) (sym (last_piece is_break text a e h within clean))
