-- The code of a call: its value, and the scratch space that it needs.
use Rattle.std.proofs.Common.{◌≡◌, ◌∙◌, ℕ, ◌+◌, List, [], ◌∷◌, length, map, refl, ap}
use Rattle.std.{proofs.lemmas.List.length-map, proofs.lemmas.List.Sums.sum-map, specs.Prelude.sum, specs.Prelude.sum_by}
use Rattle.kp_seq_plan.specs.{declared.code.Code.Code, Codes.value_of, Codes.value_level, Codes.space_of, Codes.space_level}
use Rattle.kp_seq_plan.proofs.CodeLevels.{code-Call}
use Rattle.kp_seq_plan.specs.declared.code.Code.TheViews as codes

abbrev pub N : Type 0
N = List ℕ → ℕ

pub at : {f g : N} → f ≡ g → (s : List ℕ) → f s ≡ g s
at e s = ap (λ (h : N). h s) e

pub space_called : (cs : List Code) (body : Code) → space_of (codes.Call cs body) ≡ space_of body + (length cs + sum_by space_of cs)
space_called cs body =
    code-Call ℕ space_level cs body ∙ ap (λ n. space_of body + (n + sum (map space_of cs))) (length-map cs space_of) ∙ ap (λ n. space_of body + (length cs + n)) (sum-map space_of cs)

values_at : (cs : List Code) (vs : List ℕ) → map (λ (f : N). f vs) (map value_of cs) ≡ map (λ c. value_of c vs) cs
values_at [] vs = refl
values_at (c ∷ cs) vs = ap (λ xs. value_of c vs ∷ xs) (values_at cs vs)

pub value_called : (cs : List Code) (body : Code) (vs : List ℕ) → value_of (codes.Call cs body) vs ≡ value_of body (map (λ c. value_of c vs) cs)
value_called cs body vs = at (code-Call N value_level cs body) vs ∙ ap (value_of body) (values_at cs vs)
