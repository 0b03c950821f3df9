-- What words ask for, by the tests on them.
use Rattle.std.proofs.Common.{◌≡◌, ℕ, Bool, true, false, cond, List, map, ap, ◌∙◌}
use Rattle.std.specs.List.{list_any}
use Rattle.kp_command_line.proofs.Parses.{any_text}
use Rattle.kp_runner.specs.Words.{Asked, help, version, is_help, is_version, words_asked, asked_for}

module _ {A : Type 0} (text : A → List ℕ) (words : List A) where
  abbrev all : List (List ℕ)
  all = map text words

  of_help : (b : Bool) → b ≡ list_any (λ word. is_help (text word)) words → b ≡ list_any is_help all
  of_help b is = is ∙ any_text text is_help words

  of_version : (b : Bool) → b ≡ list_any (λ word. is_version (text word)) words → b ≡ list_any is_version all
  of_version b is = is ∙ any_text text is_version words

  pub helped : true ≡ list_any (λ word. is_help (text word)) words → help ≡ asked_for all
  helped is = ap (λ (b : Bool). cond b help (cond (list_any is_version all) version (words_asked all))) (of_help true is)

  pub versioned : false ≡ list_any (λ word. is_help (text word)) words → true ≡ list_any (λ word. is_version (text word)) words → version ≡ asked_for all
  versioned other is =
      ap (λ (b : Bool). cond b version (words_asked all)) (of_version true is)
      ∙ ap (λ (b : Bool). cond b help (cond (list_any is_version all) version (words_asked all))) (of_help false other)

  pub worded : (asked : Asked) → false ≡ list_any (λ word. is_help (text word)) words → false ≡ list_any (λ word. is_version (text word)) words → asked ≡ words_asked all
      → asked ≡ asked_for all
  worded asked other none is =
      is ∙ ap (λ (b : Bool). cond b version (words_asked all)) (of_version false none)
      ∙ ap (λ (b : Bool). cond b help (cond (list_any is_version all) version (words_asked all))) (of_help false other)
