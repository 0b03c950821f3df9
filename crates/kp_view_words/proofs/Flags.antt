-- Where the first word that begins with `-` is, and the words from there on.
use Rattle.std.proofs.Common.{◌≡◌, ◌∙◌, ℕ, ◌+◌, ◌<◌, ◌≤◌, ◌-◌, Bool, true, false, cond, List, [], ◌∷◌, map, length, take, drop, get_or, Option, Some, None, refl, sym, ap, ap₂, arith}
use Rattle.std.proofs.lemmas.List.{drop_all, drop_more, drop-map, length-drop, take-map, take_all}
use Rattle.std.specs.Prelude.{option_and_then}
use Rattle.kp_command_line.specs.Words.{Text, is_flag, has_flag}
use Rattle.kp_view_words.specs.Words.{asks_label, asks_listing, diagram_with, labelled_after, labelled_by, labelled_task, labelled_with, listed_by, undashed}

module _ {X : Type 0} (text : X → Text) where
  abbrev after : List X → ℕ → ℕ
  after words i = undashed (map text (drop i words))

  one_word : (words : List X) (i : ℕ) (x d : X) → i < length words → x ≡ get_or words i d
      → after words i ≡ cond (is_flag (text x)) 0 (1 + after words (i + 1))
  one_word words i x d b is = ap (λ (ws : List X). undashed (map text ws)) (drop_more words i d b ∙ ap (λ (y : X). y ∷ drop (i + 1) words) (sym is))

  pub dash_found : (words : List X) (i : ℕ) (x d : X) → i < length words → x ≡ get_or words i d → is_flag (text x) ≡ true
      → undashed (map text words) ≡ i + after words i → i ≡ undashed (map text words)
  dash_found words i x d b is dash kept =
      let none : after words i ≡ 0 = one_word words i x d b is ∙ ap (λ (t : Bool). cond t 0 (1 + after words (i + 1))) dash in
      omega (arith, kept, none)

  pub dash_later : (words : List X) (i : ℕ) (x d : X) → i < length words → x ≡ get_or words i d → is_flag (text x) ≡ false
      → undashed (map text words) ≡ i + after words i → undashed (map text words) ≡ i + 1 + after words (i + 1)
  dash_later words i x d b is dash kept =
      let one : after words i ≡ 1 + after words (i + 1) = one_word words i x d b is ∙ ap (λ (t : Bool). cond t 0 (1 + after words (i + 1))) dash in
      omega (arith, kept, one)

  pub dash_nowhere : (words : List X) (i : ℕ) → i ≡ length words → undashed (map text words) ≡ i + after words i → i ≡ undashed (map text words)
  dash_nowhere words i all kept =
      let none : after words i ≡ 0 = ap (λ (ws : List X). undashed (map text ws)) (drop_all i words (omega (arith, all))) in
      omega (arith, kept, none)

  -- the words from one on
  all_left : (words : List X) (n : ℕ) → take (length words - n) (drop n words) ≡ drop n words
  all_left words n = let l = length-drop n words in take_all (length words - n) (drop n words) (omega (arith, l))

  pub cut_there : (words : List X) (at : ℕ) → at ≡ undashed (map text words)
      → labelled_with (map text (take at words)) (map text (take (length words - at) (drop at words))) ≡ labelled_task (map text words)
  cut_there words at is =
      ap₂ labelled_with (sym (take-map text at words)) (ap (map text) (all_left words at) ∙ sym (drop-map text at words))
      ∙ ap (λ (n : ℕ). labelled_with (take n (map text words)) (drop n (map text words))) is

  pub too_few : (before : List Text) (words : List X) → length words < 2 → None ≡ labelled_with before (map text words)
  too_few before [] b = refl
  too_few before (x ∷ []) b = refl
  too_few before (x ∷ y ∷ rest) b = absurd (omega (arith, b))

  pub two_words : (before : List Text) (words : List X) (flag label : X) → 2 ≤ length words → flag ≡ get_or words 0 flag → label ≡ get_or words 1 label
      → listed_by before (text flag) (text label) (map text (take (length words - 2) (drop 2 words))) ≡ labelled_with before (map text words)
  two_words before [] flag label b first second = absurd (omega (arith, b))
  two_words before (x ∷ []) flag label b first second = absurd (omega (arith, b))
  two_words before (x ∷ y ∷ rest) flag label b first second =
      ap (λ (ws : List X). listed_by before (text flag) (text label) (map text ws)) (all_left (x ∷ y ∷ rest) 2)
      ∙ ap₂ (λ (f l : X). listed_by before (text f) (text l) (map text rest)) first second

  -- the listing
  pub short : (before : List Text) (flag label : Text) (words : List X) → length words < 2
      → labelled_by before flag label None (map text words) ≡ listed_by before flag label (map text words)
  short before flag label [] b = refl
  short before flag label (x ∷ []) b = refl
  short before flag label (x ∷ y ∷ rest) b = absurd (omega (arith, b))

  pub no_listing : (before : List Text) (flag label : Text) (words : List X) (w f : X) → 2 ≤ length words → w ≡ get_or words 0 w → f ≡ get_or words 1 f
      → false ≡ asks_listing (text w) (text f)
      → labelled_by before flag label None (map text words) ≡ listed_by before flag label (map text words)
  no_listing before flag label [] w f b first second asks = absurd (omega (arith, b))
  no_listing before flag label (x ∷ []) w f b first second asks = absurd (omega (arith, b))
  no_listing before flag label (x ∷ y ∷ rest) w f b first second asks =
      let all : List Text = text x ∷ text y ∷ map text rest in
      ap (λ (b : Bool). cond b (labelled_by before flag label (Some (text y)) (map text rest)) (labelled_by before flag label None all))
      (asks ∙ ap₂ (λ (g h : X). asks_listing (text g) (text h)) first second)

  pub with_listing : (before : List Text) (flag label : Text) (words : List X) (w f : X) → 2 ≤ length words → w ≡ get_or words 0 w → f ≡ get_or words 1 f
      → true ≡ asks_listing (text w) (text f)
      → labelled_by before flag label (Some (text f)) (map text (take (length words - 2) (drop 2 words))) ≡ listed_by before flag label (map text words)
  with_listing before flag label [] w f b first second asks = absurd (omega (arith, b))
  with_listing before flag label (x ∷ []) w f b first second asks = absurd (omega (arith, b))
  with_listing before flag label (x ∷ y ∷ rest) w f b first second asks =
      let all : List Text = text x ∷ text y ∷ map text rest in
      ap₂ (λ (g : X) (ws : List X). labelled_by before flag label (Some (text g)) (map text ws)) second (all_left (x ∷ y ∷ rest) 2)
      ∙ ap (λ (b : Bool). cond b (labelled_by before flag label (Some (text y)) (map text rest)) (labelled_by before flag label None all))
      (asks ∙ ap₂ (λ (g h : X). asks_listing (text g) (text h)) first second)

-- whether there is another flag, and this one is for labels
module _ (before : List Text) (flag label : Text) (listing : Option Text) (files : List Text) where
  pub by_dash : true ≡ has_flag files → None ≡ labelled_by before flag label listing files
  by_dash h = ap (λ (b : Bool). cond b None (cond (asks_label flag label) (option_and_then (labelled_after label listing files) (diagram_with before)) None)) h

  pub by_label : false ≡ has_flag files → true ≡ asks_label flag label → option_and_then (labelled_after label listing files) (diagram_with before) ≡ labelled_by before flag label listing files
  by_label none asks =
      ap (λ (b : Bool). cond b (option_and_then (labelled_after label listing files) (diagram_with before)) None) asks
      ∙ ap (λ (b : Bool). cond b None (cond (asks_label flag label) (option_and_then (labelled_after label listing files) (diagram_with before)) None)) none
