-- A word, a second one, and the words after them.
use Rattle.std.proofs.Common.{◌≡◌, ◌∙◌, ◌-◌, ◌≤◌, Bool, cond, true, false, List, [], ◌∷◌, map, length, take, drop, get_or, Option, Some, None, refl, ap, arith}
use Rattle.std.proofs.lemmas.List.{length-drop, take_all}
use Rattle.std.specs.{Borrow.Bor, List.find, List.list_any, Option.option_copied, Prelude.not, Prelude.option_map}
use Rattle.kp_command_line.{specs.Words.Text, specs.Words.has_flag, specs.Words.is_flag, proofs.Parses.any_text}
use Rattle.kp_view_words.specs.Words.{asks_files, asks_picture, depth_with, is_name, names_in, picture_with, takes_names, with_flag, wrong_name}

-- a second word that begins with `-`, and others that do
by_none : (word flag : Text) (files : List Text) → true ≡ has_flag files → None ≡ with_flag word (flag ∷ files)
by_none word flag files some =
    ap (λ (b : Bool). cond b None (cond (asks_picture word flag) (picture_with files) (cond (asks_files word flag) (depth_with files) None))) some

-- a flag for a picture
by_picture : (word flag : Text) (files : List Text) → false ≡ has_flag files → true ≡ asks_picture word flag → picture_with files ≡ with_flag word (flag ∷ files)
by_picture word flag files none picture =
    ap (λ (b : Bool). cond b (picture_with files) (cond (asks_files word flag) (depth_with files) None)) picture
    ∙ ap (λ (b : Bool). cond b None (cond (asks_picture word flag) (picture_with files) (cond (asks_files word flag) (depth_with files) None))) none

-- a flag for files
by_files : (word flag : Text) (files : List Text) → false ≡ has_flag files → false ≡ asks_picture word flag → true ≡ asks_files word flag
    → depth_with files ≡ with_flag word (flag ∷ files)
by_files word flag files none picture asks =
    ap (λ (b : Bool). cond b (depth_with files) None) asks
    ∙ ap (λ (b : Bool). cond b (picture_with files) (cond (asks_files word flag) (depth_with files) None)) picture
    ∙ ap (λ (b : Bool). cond b None (cond (asks_picture word flag) (picture_with files) (cond (asks_files word flag) (depth_with files) None))) none

module _ {X : Type 0} (text : X → Text) where
  abbrev after : List X → List X
  after words = take (length words - 2) (drop 2 words)

  all_after : (words : List X) → after words ≡ drop 2 words
  all_after words = let l = length-drop 2 words in take_all (length words - 2) (drop 2 words) (omega (arith, l))

  abbrev left : List X → List X
  left words = take (length words - 1) (drop 1 words)

  all_left : (words : List X) → left words ≡ drop 1 words
  all_left words = let l = length-drop 1 words in take_all (length words - 1) (drop 1 words) (omega (arith, l))

  seen_flag : (x : X) (rest : List X) (b : Bool) → b ≡ list_any (λ w. is_flag (text w)) (left (x ∷ rest)) → b ≡ has_flag (map text rest)
  seen_flag x rest b is = is ∙ any_text text is_flag (left (x ∷ rest)) ∙ ap (λ (ws : List X). has_flag (map text ws)) (all_left (x ∷ rest))

  pub flagged_none : (word : Text) (rest : List X) → 1 ≤ length rest → true ≡ list_any (λ w. is_flag (text w)) (left rest) → None ≡ with_flag word (map text rest)
  flagged_none word [] b some = absurd (omega (arith, b))
  flagged_none word (x ∷ rest) b some = by_none word (text x) (map text rest) (seen_flag x rest true some)

  pub flagged_picture : (word : Text) (rest : List X) (flag : X) → 1 ≤ length rest → flag ≡ get_or rest 0 flag
      → false ≡ list_any (λ w. is_flag (text w)) (left rest) → true ≡ asks_picture word (text flag) → picture_with (map text (left rest)) ≡ with_flag word (map text rest)
  flagged_picture word [] flag b first none picture = absurd (omega (arith, b))
  flagged_picture word (x ∷ rest) flag b first none picture =
      ap (λ (ws : List X). picture_with (map text ws)) (all_left (x ∷ rest))
      ∙ by_picture word (text x) (map text rest) (seen_flag x rest false none) (picture ∙ ap (λ (f : X). asks_picture word (text f)) first)

  pub flagged_files : (word : Text) (rest : List X) (flag : X) → 1 ≤ length rest → flag ≡ get_or rest 0 flag
      → false ≡ list_any (λ w. is_flag (text w)) (left rest) → false ≡ asks_picture word (text flag) → true ≡ asks_files word (text flag)
      → depth_with (map text (left rest)) ≡ with_flag word (map text rest)
  flagged_files word [] flag b first none picture asks = absurd (omega (arith, b))
  flagged_files word (x ∷ rest) flag b first none picture asks =
      ap (λ (ws : List X). depth_with (map text ws)) (all_left (x ∷ rest))
      ∙ by_files word (text x) (map text rest) (seen_flag x rest false none)
      (picture ∙ ap (λ (f : X). asks_picture word (text f)) first) (asks ∙ ap (λ (f : X). asks_files word (text f)) first)

  -- the first word that can't be the name of a stage
  copied : (found : Option (Bor X)) → option_map (λ x. text x.now) found ≡ option_map text (option_copied found)
  copied None = refl
  copied (Some x) = refl

  one_more : (test : Text → Bool) (word : X) (words : List X) (b : Bool) → option_map text (find (λ w. test (text w)) words) ≡ find test (map text words)
      → option_map text (cond b (Some word) (find (λ w. test (text w)) words)) ≡ cond b (Some (text word)) (find test (map text words))
  one_more test word words true more = refl
  one_more test word words false more = more

  found_in : (test : Text → Bool) (words : List X) → option_map text (find (λ w. test (text w)) words) ≡ find test (map text words)
  found_in test [] = refl
  found_in test (word ∷ words) = one_more test word words (test (text word)) (found_in test words)

  pub first_wrong : (words names : List X) (word : X) (found : Option (Bor X)) → 2 ≤ length words → word ≡ get_or words 0 word
      → option_copied found ≡ find (λ name. not (is_name (text name))) names → map text names ≡ names_in (map text (after words)) → true ≡ takes_names (text word)
      → option_map (λ x. text x.now) found ≡ wrong_name (map text words)
  first_wrong [] names word found b first is are takes = absurd (omega (arith, b))
  first_wrong (x ∷ []) names word found b first is are takes = absurd (omega (arith, b))
  first_wrong (x ∷ y ∷ rest) names word found b first is are takes =
      let all = all_after (x ∷ y ∷ rest) in
      copied found ∙ ap (option_map text) is ∙ found_in (λ name. not (is_name name)) names
      ∙ ap (find (λ name. not (is_name name))) (are ∙ ap (λ (ws : List X). names_in (map text ws)) all)
      ∙ ap (λ (b : Bool). cond b (find (λ name. not (is_name name)) (names_in (map text rest))) None) (takes ∙ ap (λ (w : X). takes_names (text w)) first)
