-- The words after a number: names of stages and a file.
use Rattle.std.proofs.Common.{◌≡◌, ◌∙◌, ℕ, ◌+◌, ◌-◌, ◌<◌, Bool, cond, true, false, List, [], ◌∷◌, ◌++◌, map, length, take, Option, Some, None, refl, sym, ap, ap₂, arith}
use Rattle.std.proofs.lemmas.{Option.slice_get-get_or, List.map-append, List.length-map, List.length-append}
use Rattle.std.{proofs.Math.Seq.take-append_seam, proofs.Math.Seq.get_or-append_seam, specs.Prelude.slice_get, specs.Prelude.option_and_then}
use Rattle.std.specs.{List.IsLastAndRest, List.list_all, Option.option_map_or}
use Rattle.kp_command_line.specs.Words.{Text}
use Rattle.kp_view_words.specs.Words.{file_in, is_file_after, is_name, named_in, names_in}

-- some names, and a last word
module _ (names : List Text) (last : Text) where
  abbrev both : List Text
  both = names ++ last ∷ []

  one_more : length both ≡ length names + 1
  one_more = length-append names (last ∷ [])

  count : length both - 1 ≡ length names
  count = let e = one_more in omega (arith, e)

  last_got : slice_get both (length names) ≡ Some last
  last_got =
      let e = one_more in
      let b : length names < length both = omega (arith, e) in
      slice_get-get_or both (length names) last b ∙ ap Some (get_or-append_seam names last [] last)

  abbrev file_at : ℕ → Option Text → Option Text
  file_at n = option_and_then (λ l. cond (is_file_after n l) (Some l) None)

  file_is : file_in both ≡ cond (is_file_after (length names) last) (Some last) None
  file_is = ap (λ n. file_at n (slice_get both n)) count ∙ ap (file_at (length names)) last_got

  names_are : names_in both ≡ cond (is_file_after (length names) last) names both
  names_are = ap (λ f. option_map_or (λ file. take (length both - 1) both) f both) file_is ∙ go (is_file_after (length names) last)
    where
      go : (b : Bool) → option_map_or (λ file. take (length both - 1) both) (cond b (Some last) None) both ≡ cond b names both
      go true = ap (λ n. take n both) count ∙ take-append_seam names (last ∷ [])
      go false = refl

module _ {X : Type 0} (f : X → Text) (rest names : List X) (last : X) (is : IsLastAndRest rest last names) where
  mapped : map f rest ≡ map f names ++ f last ∷ []
  mapped = ap (map f) is.0 ∙ map-append f names (last ∷ [])

  test_is : (b : Bool) → is_file_after (length names) (f last) ≡ b → is_file_after (length (map f names)) (f last) ≡ b
  test_is b h = ap (λ n. is_file_after n (f last)) (length-map names f) ∙ h

  pub names_found : is_file_after (length names) (f last) ≡ true → map f names ≡ names_in (map f rest)
  names_found h =
      sym (ap names_in mapped ∙ names_are (map f names) (f last) ∙ ap (λ b. cond b (map f names) (map f names ++ f last ∷ [])) (test_is true h))

  pub names_all : is_file_after (length names) (f last) ≡ false → map f rest ≡ names_in (map f rest)
  names_all h =
      mapped ∙ sym (ap names_in mapped ∙ names_are (map f names) (f last) ∙ ap (λ b. cond b (map f names) (map f names ++ f last ∷ [])) (test_is false h))

  pub file_found : is_file_after (length names) (f last) ≡ true → Some (f last) ≡ file_in (map f rest)
  file_found h = sym (ap file_in mapped ∙ file_is (map f names) (f last) ∙ ap (λ b. cond b (Some (f last)) None) (test_is true h))

  pub file_none : is_file_after (length names) (f last) ≡ false → None ≡ file_in (map f rest)
  file_none h = sym (ap file_in mapped ∙ file_is (map f names) (f last) ∙ ap (λ b. cond b (Some (f last)) None) (test_is false h))

-- the names and the file, where the names are or aren't names of stages
pub named_none : (rest : List Text) → list_all is_name (names_in rest) ≡ false → None ≡ named_in rest
named_none rest h = sym (ap (λ b. cond b (Some (record { names = names_in rest; file = file_in rest })) None) h)

pub named_some : (rest names : List Text) (file : Option Text) → names ≡ names_in rest → file ≡ file_in rest → list_all is_name (names_in rest) ≡ true
    → Some (record { names = names; file = file }) ≡ named_in rest
named_some rest names file n f h =
    ap₂ (λ (ns : List Text) (o : Option Text). Some (record { names = ns; file = o })) n f
    ∙ sym (ap (λ b. cond b (Some (record { names = names_in rest; file = file_in rest })) None) h)
