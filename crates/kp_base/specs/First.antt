-- The first violated rule: each rule is a question, and the first answer in the list that names a rule is returned.
use Rattle.std.specs.Prelude.{◌≡◌, List, [], ◌∷◌, Option, Some, None, Result, Ok, Err, ⊤}
use Rattle.kp_base.specs.declared.refusal.{Refusal.Refusal, Refused.Refused, Refused.TheVariants.Rule, Refused.TheVariants.NoMemory}

-- the first answer that is not None
abbrev pub first : {X : Type 0} → List (Option X) → Option X
first [] = None
first (None ∷ xs) = first xs
first (Some x ∷ xs) = Some x

-- what a checking call returns: Ok if no rule is violated, and P holds; a rule only if it is the first one violated; or out of memory
abbrev pub Answers : {T : Type 0} → Result T Refused → Option Refusal → (T → Type 0) → Type 0
Answers (Ok x) broken P = (broken ≡ None) × P x
Answers (Err (Rule r)) broken P = broken ≡ Some r
Answers (Err NoMemory) broken P = ⊤
