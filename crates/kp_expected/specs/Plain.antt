-- Grammars over classes of tokens, without what they build.
use Rattle.std.specs.Prelude.{ℕ, List, [], ◌∷◌, map, reverse, ⊤}
use Rattle.kp_grammar.specs.Grammar.{Symbol, Terminal, Nonterminal, Action, Rules, Grammar}
use Rattle.kp_expected.specs.declared.class.Symbol.{Symbol as CodeSymbol}
use Rattle.kp_expected.specs.declared.class.Symbol.TheVariants as symbols

-- a symbol without a way of reading, and without actions
abbrev pub Plain : Type 0
Plain = Symbol ⊤ ⊥

abbrev pub PlainRules : Type 0
PlainRules = Rules ⊤ ⊥

-- a list of symbols without the ways of reading and the actions, and rules without them
abbrev pub stripped : {W B : Type 0} → List (Symbol W B) → List Plain
stripped [] = []
stripped (Terminal c way ∷ s) = Terminal c tt ∷ stripped s
stripped (Nonterminal n ∷ s) = Nonterminal n ∷ stripped s
stripped (Action a ∷ s) = stripped s

abbrev pub stripped_rules : {W B : Type 0} → Rules W B → PlainRules
stripped_rules [] = []
stripped_rules (r ∷ rs) = (r.0, map stripped r.1) ∷ stripped_rules rs

-- the grammar with these rules over classes with numbers, which builds nothing
abbrev pub plain : {C : Type 0} → (C → ℕ) → PlainRules → Grammar ⊤ ⊥ C ⊤
plain number rules = record { class = number; rules = rules; reads = λ way c v. v; builds = λ a v. v }

-- a symbol of the code
abbrev pub plain_symbol : {C P : Type 0} → (C → ℕ) → (P → ℕ) → CodeSymbol C P → Plain
plain_symbol number name (symbols.Token c) = Terminal (number c) tt
plain_symbol number name (symbols.Inner p) = Nonterminal (name p)

-- the symbols on the stack of the code, whose top is last
abbrev pub stack : {C P : Type 0} → (C → ℕ) → (P → ℕ) → List (CodeSymbol C P) → List Plain
stack number name symbols = map (plain_symbol number name) (reverse symbols)
