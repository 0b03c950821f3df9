-- A part of an alternative that is read by a function of its own: some symbols, in order.
use Rattle.std.specs.Prelude.{ℕ, ◌+◌, ◌≤◌, List, [], ◌∷◌, ◌++◌, length, drop}
use Rattle.kp_grammar.specs.{Grammar.Terminal, Grammar.Nonterminal, Machine.Outcome}
use Rattle.kp_lex.specs.declared.token.Mark.TheVariants as marks
use Rattle.kp_parse_grammar.specs.Language.{Sym, State, Value, Way, counts_one, opens, opens_at, at, counted, mark, separating, closing, NUM, LOW}
use Rattle.kp_parse_grammar.specs.{declared.fault.Fault.Fault, Tokens.Lexeme, Reading.Goes, Reading.Faults}

-- `[hi:lo]`
abbrev pub bound_symbols : List Sym
bound_symbols = counted marks.OpenBracket ∷ NUM ∷ Nonterminal LOW ∷ mark marks.CloseBracket ∷ []

-- `, width)`
abbrev pub width_symbols : List Sym
width_symbols = separating marks.Comma ∷ NUM ∷ closing marks.CloseParenthesis ∷ []

-- Reading the symbols leads from token i to token j, and pushes values; it consumes at least this many tokens.
pub record TurnsAll (ts : List Lexeme) (xs : List Sym) (after : List Value) (i j least : ℕ) : Type 0 where
  pub leads : (s : List Sym) (cs : List ℕ) (vs : List Value) (o : Outcome State) → Goes s (at cs (after ++ vs)) (drop j ts) o → Goes (xs ++ s) (at cs vs) (drop i ts) o
  pub shrinks : length (drop j ts) + least ≤ length (drop i ts)

-- Reading them from token i on ends with this fault.
abbrev pub EndsAll : List Lexeme → List Sym → ℕ → Fault → Type 0
EndsAll ts xs i = Faults ts (λ o. (s : List Sym) (cs : List ℕ) (vs : List Value) → Goes (xs ++ s) (at cs vs) (drop i ts) o)

-- In an expression reading the symbols leads from token i to token j, from one count to another, and pushes values.
pub record ReadsAll (ts : List Lexeme) (xs : List Sym) (c : ℕ) (after : List Value) (c' i j : ℕ) : Type 0 where
  pub leads : (s : List Sym) (cs : List ℕ) (vs : List Value) (o : Outcome State) → Goes s (at (c' ∷ cs) (after ++ vs)) (drop j ts) o → Goes (xs ++ s) (at (c ∷ cs) vs) (drop i ts) o
  pub grows : c ≤ c'
  pub limit : c' ≤ 64
  pub shrinks : length (drop j ts) + 1 ≤ length (drop i ts)

-- In an expression reading them from token i on ends with this fault.
abbrev pub FailsAll : List Lexeme → List Sym → ℕ → ℕ → Fault → Type 0
FailsAll ts xs c i = Faults ts (λ o. (s : List Sym) (cs : List ℕ) (vs : List Value) → Goes (xs ++ s) (at (c ∷ cs) vs) (drop i ts) o)

-- the ways that increment the count
abbrev pub Counts : Way → Type 0
Counts counts_one = Unit {0}
Counts opens = Unit {0}
Counts opens_at = Unit {0}
Counts _ = ⊥

-- Reading a token of the class that increments the count ends with this fault.
abbrev pub FailsCount : List Lexeme → (terminal count index : ℕ) → Fault → Type 0
FailsCount ts k c i = Faults ts (λ o. (way : Way) → Counts way → (s : List Sym) (cs : List ℕ) (vs : List Value) → Goes (Terminal k way ∷ s) (at (c ∷ cs) vs) (drop i ts) o)

-- In a bracket reading the symbols, the last of which closes it, leads from token i to token j, and pushes values.
pub record ReadsOut (ts : List Lexeme) (xs : List Sym) (after : List Value) (i j : ℕ) : Type 0 where
  pub leads : (s : List Sym) (d c : ℕ) (cs : List ℕ) (vs : List Value) (o : Outcome State) → Goes s (at (c ∷ cs) (after ++ vs)) (drop j ts) o → Goes (xs ++ s) (at (d ∷ c ∷ cs) vs) (drop i ts) o
  pub shrinks : length (drop j ts) + 1 ≤ length (drop i ts)

-- In a bracket reading them from token i on ends with this fault.
abbrev pub FailsOut : List Lexeme → List Sym → ℕ → Fault → Type 0
FailsOut ts xs i = Faults ts (λ o. (s : List Sym) (d c : ℕ) (cs : List ℕ) (vs : List Value) → Goes (xs ++ s) (at (d ∷ c ∷ cs) vs) (drop i ts) o)
