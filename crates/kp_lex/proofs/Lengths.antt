-- A keyword is found among those of its length.
use Rattle.std.proofs.Common.{◌≡◌, ℕ, List, [], ◌∷◌, length, Bool, true, false, cond, Option, Some, refl, sym, ap, ◌∙◌}
use Rattle.std.{proofs.lemmas.Slice.Eq.bytes_eq-Decides, proofs.lemmas.Bool.Decides.Decides-eqb, specs.Prelude.◌==◌, specs.Prelude.find, specs.Prelude.filter}
use Rattle.std.specs.Str.{bytes_eq}
use Rattle.kp_lex.specs.{declared.token.Keyword.Keyword, Words.spelling, Words.all_keywords, Words.keyword_of, Words.keywords_of_length}

-- a list with one more keyword, which is omitted only if it isn't found
found_past : (test : Keyword → Bool) (k : Keyword) (kept : List Keyword) (rest : Option Keyword) (a b : Bool) → test k ≡ a → (a ≡ true → b ≡ true)
    → find test kept ≡ rest → find test (cond b (k ∷ kept) kept) ≡ cond a (Some k) rest
found_past test k kept rest true true e l h = ap (λ x. cond x (Some k) (find test kept)) e
found_past test k kept rest true false e l h = let no : false ≡ true = l refl in cc
found_past test k kept rest false true e l h = ap (λ x. cond x (Some k) (find test kept)) e ∙ h
found_past test k kept rest false false e l h = h

module _ (run : List ℕ) where
  abbrev is_written : Keyword → Bool
  is_written k = bytes_eq run (spelling k)

  abbrev is_as_long : Keyword → Bool
  is_as_long k = length (spelling k) == length run

  written_as_long : (k : Keyword) → is_written k ≡ true → is_as_long k ≡ true
  written_as_long k e = (Decides-eqb (length (spelling k)) (length run)).1 (ap length (sym ((bytes_eq-Decides run (spelling k)).0 e)))

  same_found : (ks : List Keyword) → find is_written (filter is_as_long ks) ≡ find is_written ks
  same_found [] = refl
  same_found (k ∷ ks) = found_past is_written k (filter is_as_long ks) (find is_written ks) (is_written k) (is_as_long k) refl (written_as_long k) (same_found ks)

  pub found_by_length : find is_written (keywords_of_length (length run)) ≡ keyword_of run
  found_by_length = same_found all_keywords
