-- What options ask for, by the first words of a list and the rest.
use Rattle.std.proofs.Common.{◌≡◌, ◌≤◌, ◌-◌, ◌∙◌, ℕ, Bool, true, false, cond, codes, List, [], ◌∷◌, Option, Some, map, length, take, drop, get_or, ap, ap₂, sym, arith}
use Rattle.std.proofs.lemmas.List.{take_all}
use Rattle.std.specs.Str.{bytes_eq}
use Rattle.kp_runner.specs.Words.{Settings, asked_with, options_from, with_option}

module _ {A : Type 0} (text : A → List ℕ) where
  abbrev pub rest : List A → List A
  rest ws = take (length ws - 1) (drop 1 ws)

  rest_of : (w : A) (ws : List A) → rest (w ∷ ws) ≡ ws
  rest_of w ws = take_all (length (w ∷ ws) - 1) ws (omega arith)

  pub quiet_on : (s t : Settings) (ws : List A) (w : A) → 1 ≤ length ws → w ≡ get_or ws 0 w → 1 ≤ length (rest ws) → t ≡ record s { quiet = true }
      → true ≡ bytes_eq (text w) (codes "--quiet") → options_from t (map text (rest ws)) ≡ options_from s (map text ws)
  quiet_on s t [] w some first more is quiet = absurd (omega (arith, some))
  quiet_on s t (x ∷ []) w some first more is quiet = absurd (omega (arith, more))
  quiet_on s t (x ∷ v ∷ vs) w some first more is quiet =
      ap (λ (ws : List A). options_from t (map text ws)) (rest_of x (v ∷ vs))
      ∙ ap (λ (r : Settings). options_from r (text v ∷ map text vs)) is
      ∙ ap (λ (b : Bool). cond b (options_from (record s { quiet = true }) (text v ∷ map text vs))
      (asked_with (λ u more. options_from u (map text vs)) (with_option s (text x) (text v)) (map text vs)))
      (quiet ∙ ap (λ (y : A). bytes_eq (text y) (codes "--quiet")) first)

  pub value_on : (s t : Settings) (ws : List A) (w value : A) → 1 ≤ length ws → w ≡ get_or ws 0 w → 1 ≤ length (rest ws) → value ≡ get_or (rest ws) 0 value
      → false ≡ bytes_eq (text w) (codes "--quiet") → with_option s (text w) (text value) ≡ Some t → options_from t (map text (rest (rest ws))) ≡ options_from s (map text ws)
  value_on s t [] w value some first more second loud is = absurd (omega (arith, some))
  value_on s t (x ∷ []) w value some first more second loud is = absurd (omega (arith, more))
  value_on s t (x ∷ v ∷ vs) w value some first more second loud is =
      let next = second ∙ ap (λ (r : List A). get_or r 0 value) (rest_of x (v ∷ vs)) in
      ap (λ (ws : List A). options_from t (map text ws)) (ap rest (rest_of x (v ∷ vs)) ∙ rest_of v vs)
      ∙ ap (λ (o : Option Settings). asked_with (λ u more. options_from u (map text vs)) o (map text vs))
      (sym (ap₂ (λ (a b : A). with_option s (text a) (text b)) (sym first) (sym next) ∙ is))
      ∙ ap (λ (b : Bool). cond b (options_from (record s { quiet = true }) (text v ∷ map text vs))
      (asked_with (λ u more. options_from u (map text vs)) (with_option s (text x) (text v)) (map text vs)))
      (loud ∙ ap (λ (y : A). bytes_eq (text y) (codes "--quiet")) first)
