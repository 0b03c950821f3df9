-- Names and their numbers: a name that an entry has is determined by its number.
use Rattle.std.proofs.Common.{◌≡◌, ◌∙◌, ℕ, suc, ◌<◌, List, [], ◌∷◌, length, Bool, true, false, cond, refl, sym, arith}
use Rattle.std.specs.Cmp.Lexicographic.{bytes_decides}
use Rattle.kp_ast.specs.Expressions.{is_same_name}
use Rattle.kp_machine.specs.Slots.{Slot, number_of}

-- some entry has the name
abbrev pub IsIn : List Slot → List ℕ → Type 0
IsIn slots name = number_of slots name < length slots

pub same_name : (a b : List ℕ) → is_same_name a b ≡ true → a ≡ b
same_name a b e = (bytes_decides a b).0 e

pub is_same : (a b : List ℕ) → a ≡ b → is_same_name a b ≡ true
is_same a b e = (bytes_decides a b).1 e

here_or_later : {G : Type 0} (x y : Bool) (m n k : ℕ) → (x ≡ true → y ≡ true → G) → (m < k → m ≡ n → G)
    → cond x 0 (suc m) < suc k → cond x 0 (suc m) ≡ cond y 0 (suc n) → G
here_or_later true true m n k both later h e = both refl refl
here_or_later true false m n k both later h e = absurd (omega arith)
here_or_later false true m n k both later h e = absurd (omega arith)
here_or_later false false m n k both later h e = later (omega arith) (omega arith)

-- names with the same number are equal, if an entry has the name
pub number_determines : (ss : List Slot) (a b : List ℕ) → IsIn ss a → number_of ss a ≡ number_of ss b → a ≡ b
number_determines [] a b h e = absurd (omega arith)
number_determines (s ∷ ss) a b h e =
    here_or_later (is_same_name a s.name) (is_same_name b s.name) (number_of ss a) (number_of ss b) (length ss)
    (λ x y. same_name a s.name x ∙ sym (same_name b s.name y)) (number_determines ss a b) h e
