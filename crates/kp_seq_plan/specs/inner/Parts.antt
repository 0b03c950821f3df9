-- The codes of a plan's parts, and the codes that are built from them.
use Rattle.std.specs.Prelude.{◌≡◌, ◌≤◌, ◌+◌, ◌-◌, ◌^◌, ℕ, length, List, [], ◌∷◌, map, sum_by, Option, Some, None, Result, Ok, MatchResult}
use Rattle.std.specs.Option.{option_and_then, option_zip}
use Rattle.kp_base.specs.declared.outside.NoMemory.{NoMemory}
use Rattle.kp_bits.specs.{Word.Word, Checked.checked_binary, Checked.checked_mux, Checked.checked_join, Checked.checked_joined, declared.operator.BinOp.BinOp}
use Rattle.kp_ast.specs.Checked.{all_there}
use Rattle.kp_seq_plan.specs.{declared.plan.Plan.Plan, Plans.Slots, Plans.meaning, Plans.space, declared.code.Code.Code, declared.code.Typed.Typed}
use Rattle.kp_seq_plan.specs.{declared.lowering.Missing.Missing, Codes.value_of, Codes.space_of, Lowering.AllSuit, Lowering.IsTyped}
use Rattle.kp_seq_plan.specs.declared.lowering.Missing.TheVariants as missing

-- the codes and the widths of several plans
abbrev pub AreTyped : List (Option ℕ) → List Plan → List Code → List (Option ℕ) → Type 0
AreTyped widths [] codes ws = (codes ≡ []) × (ws ≡ [])
AreTyped widths (p ∷ ps) (c ∷ codes) (Some w ∷ ws) = IsTyped widths (meaning p) (space p) (record { code = c; width = w }) × AreTyped widths ps codes ws
AreTyped widths _ _ _ = ⊥

-- what is wanted has no value there
abbrev pub Absent : {X : Type 0} → List (Option ℕ) → (Slots → Option X) → Type 0
Absent widths found = (slots : Slots) (values : List ℕ) → AllSuit widths slots values → found slots ≡ None

-- and this is the reason, unless the memory is exhausted
abbrev pub Lacks : {X : Type 0} → List (Option ℕ) → (Slots → Option X) → Missing → Type 0
Lacks widths found e = e ≡ missing.Value → Absent widths found

-- the code of a plan, or why there is none
abbrev pub Yields : List (Option ℕ) → (Slots → Option Word) → ℕ → Result Typed Missing → Type 0
Yields widths found room r = MatchResult r (λ c. IsTyped widths found room c) (Lacks widths found)

-- a code that has been made, with its width
abbrev pub IsCode : Result Code NoMemory → ℕ → Result Typed Missing → Type 0
IsCode code width r = MatchResult r (λ c. (code ≡ Ok c.code) × (c.width ≡ width)) (λ e. e ≡ missing.NoMemory)

-- what is built from the code of a part
abbrev pub GivesOne : (Option Word → Option Word) → Typed → Result Typed Missing → Type 0
GivesOne g a r = (widths : List (Option ℕ)) (f : Slots → Option Word) (n : ℕ) → IsTyped widths f n a → Yields widths (λ s. g (f s)) n r

abbrev pub GivesTwo : (Option Word → Option Word → Option Word) → Typed → Typed → Result Typed Missing → Type 0
GivesTwo h a b r =
    (widths : List (Option ℕ)) (f g : Slots → Option Word) (n m : ℕ) → IsTyped widths f n a → IsTyped widths g m b → Yields widths (λ s. h (f s) (g s)) (n + m) r

-- for a binary operator, a choice, and a concatenation
abbrev pub binary_found : BinOp → Option Word → Option Word → Option Word
binary_found op a b = option_and_then (λ x. option_and_then (λ y. checked_binary op x y) b) a

abbrev pub mux_found : Option Word → Option Word → Option Word → Option Word
mux_found test a b = option_and_then (λ t. option_and_then (λ x. option_and_then (λ y. checked_mux t x y) b) a) test

abbrev pub join_found : Option Word → Option Word → Option Word
join_found a b = option_and_then (λ x. option_and_then (λ y. checked_join x (y ∷ [])) b) a

abbrev pub GivesMux : Typed → Typed → Typed → Result Typed Missing → Type 0
GivesMux test a b r =
    (widths : List (Option ℕ)) (t f g : Slots → Option Word) (l n m : ℕ) → IsTyped widths t l test → IsTyped widths f n a → IsTyped widths g m b
    → Yields widths (λ s. mux_found (t s) (f s) (g s)) (l + (n + m)) r

-- the values of two plans, if both have one
abbrev pub both_found : Plan → Plan → Slots → Option (Word × Word)
both_found a b s = option_zip (meaning a s) (meaning b s)

abbrev pub values_in : List Plan → Slots → Option (List Word)
values_in ps s = all_there (map (λ p. meaning p s) ps)

abbrev pub joined_found : List Plan → Slots → Option Word
joined_found ps s = option_and_then checked_joined (values_in ps s)

abbrev pub joined_below : (Slots → Option Word) → List Plan → Slots → Option Word
joined_below f ps s = option_and_then (λ a. option_and_then (checked_join a) (values_in ps s)) (f s)

-- the code of the first parts of a concatenation, and the parts that are still to be joined to it
pub record JoinedYet (widths : List (Option ℕ)) (parts rest : List Plan) (all : Typed) : Type 0 where
  pub found : Slots → Option Word
  pub room : ℕ
  pub typed : IsTyped widths found room all
  pub same : (s : Slots) → joined_found parts s ≡ joined_below found rest s
  pub few : room + sum_by space rest ≤ sum_by space parts

-- for a call
abbrev pub call_found : List Plan → (Slots → Option Word) → Slots → Option Word
call_found ps body s = option_and_then (λ vs. body (map Some vs)) (values_in ps s)

abbrev pub call_space : List Plan → ℕ → ℕ
call_space ps body = body + (length ps + sum_by space ps)

-- for a word
abbrev pub GivesWord : Option Word → Result Typed Missing → Type 0
GivesWord w r = (widths : List (Option ℕ)) → Yields widths (λ s. w) 0 r

-- a one in each bit of a width
abbrev pub IsMask : ℕ → ℕ → Type 0
IsMask width mask = 1 ≤ width → width ≤ 64 → mask ≡ 2 ^ width - 1

-- a code has the values of another, in at most the scratch space of that
pub record Replaces (c d : Code) : Type 0 where
  pub values : (s : List ℕ) → value_of c s ≡ value_of d s
  pub space : space_of c ≤ space_of d
