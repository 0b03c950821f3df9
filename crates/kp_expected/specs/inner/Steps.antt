-- What a step of the machine does to the symbols that are still to come.
use Rattle.std.specs.Prelude.{ℕ, List, [], ◌∷◌, ◌++◌, Bool, true, false, ⊤}
use Rattle.kp_grammar.specs.Grammar.{Derives}
use Rattle.kp_grammar.specs.{Tables.Tables, Machine.Accepts, Machine.Leads}
use Rattle.kp_expected.specs.Plain.{Plain, PlainRules, plain}

-- Some steps of a derivation lead from symbols and classes to others.
abbrev pub Derived : {C : Type 0} → (C → ℕ) → PlainRules → List Plain → List C → List Plain → List C → Type 0
Derived number rules s cs s' cs' = Derives (plain number rules) s tt cs s' tt cs'

-- The machine accepts the classes.
abbrev pub Runs : {C : Type 0} → (C → ℕ) → PlainRules → Tables → List Plain → List C → Type 0
Runs number rules t s cs = Leads (plain number rules) (λ v. false) t s tt cs (Accepts tt)

-- Each of the symbols has a sentence.
abbrev pub HasSentence : {C : Type 0} → (C → ℕ) → PlainRules → List Plain → Type 0
HasSentence {C} number rules s = (cs : List C) × Derived number rules s cs [] []

abbrev pub IsReady : {C : Type 0} → (C → ℕ) → PlainRules → List Plain → Type 0
IsReady number rules [] = ⊤
IsReady number rules (x ∷ s) = HasSentence number rules (x ∷ []) × IsReady number rules s

-- Before the classes `cs` the symbols s are as s' before the classes `left`.
pub record Goes {C : Type 0} (number : C → ℕ) (rules : PlainRules) (t : Tables) (s : List Plain) (cs : List C) (s' : List Plain) (left : List C) : Type 0 where
  pub ready : IsReady number rules s → IsReady number rules s'
  pub derives : (rest : List C) → Derived number rules s (cs ++ rest) s' (left ++ rest)
  pub runs : (rest : List C) → Runs number rules t s (cs ++ rest) → Runs number rules t s' (left ++ rest)

-- The machine accepts nothing that begins with the classes.
abbrev pub Fails : {C : Type 0} → (C → ℕ) → PlainRules → Tables → List Plain → List C → Type 0
Fails {C} number rules t s cs = (rest : List C) → Runs number rules t s (cs ++ rest) → ⊥

-- The class is read, or can't be.
abbrev pub Decides : {C : Type 0} → (C → ℕ) → PlainRules → Tables → Bool → List Plain → C → List Plain → Type 0
Decides number rules t true s c s' = Goes number rules t s (c ∷ []) s' []
Decides number rules t false s c s' = Fails number rules t s (c ∷ [])
