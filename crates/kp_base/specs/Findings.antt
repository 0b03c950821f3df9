-- What a pass finds: the violations among its answers, in their order, up to a limit.
use Rattle.std.specs.Prelude.{ℕ, List, [], ◌∷◌, ◌++◌, Option, Some, None, if◌then◌else◌, nat_lt, length}

-- the findings among answers, in their order
abbrev pub findings : {F : Type 0} → List (Option F) → List F
findings [] = []
findings (None ∷ xs) = findings xs
findings (Some f ∷ xs) = f ∷ findings xs

-- findings that are collected: how many at most, and those so far
pub record Collected (F : Type 0) : Type 0 where
  pub most : ℕ
  pub found : List F

-- after one more answer
abbrev pub with_answer : {F : Type 0} → Collected F → Option F → Collected F
with_answer c None = c
with_answer c (Some f) = if nat_lt (length c.found) c.most then record { most = c.most; found = c.found ++ f ∷ [] } else c

-- after more answers, in their order
abbrev pub with_answers : {F : Type 0} → Collected F → List (Option F) → Collected F
with_answers c [] = c
with_answers c (x ∷ xs) = with_answers (with_answer c x) xs
