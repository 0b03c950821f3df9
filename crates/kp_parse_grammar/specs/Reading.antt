-- The contracts of the functions that read: the steps of the machine. Tokens are numbered from 0. The clauses of `parse` don't use these definitions.
use Rattle.std.specs.Prelude.{ℕ, ◌+◌, ◌≤◌, ◌≡◌, List, [], ◌∷◌, ◌++◌, length, drop, Option, None, Some}
use Rattle.kp_base.specs.declared.place.Place.{Place}
use Rattle.kp_grammar.specs.{Grammar.Terminal, Grammar.Nonterminal, Tables.END_OF_TEXT}
use Rattle.kp_grammar.specs.Machine.{Outcome, Stops, Exceeds, Leads, look}
use Rattle.kp_ast.specs.declared.tree.Expr.{Expr}
use Rattle.kp_lex.specs.declared.token.TokenKind.{TokenKind}
use Rattle.kp_parse_grammar.specs.{declared.fault.Fault.Fault, Tokens.Lexeme, Tokens.kind_class}
use Rattle.kp_parse_grammar.specs.Language.{Sym, State, Value, Way, closes, at, is_over, exprs, language, EXPRS, PARTS, JOB}
use Rattle.kp_parse_grammar.specs.Follow.{tables}
use Rattle.kp_parse_grammar.specs.declared.fault.Fault.TheVariants as faults

abbrev pub Goes : List Sym → State → List Lexeme → Outcome State → Type 0
Goes s v ts o = Leads language is_over tables s v ts o

-- the class of token i
abbrev pub class_at : List Lexeme → ℕ → ℕ
class_at ts i = look language (drop i ts)

-- the class of an optional token
abbrev pub class_of : Option TokenKind → ℕ
class_of None = END_OF_TEXT
class_of (Some kind) = kind_class kind

-- Token i is of this class and at this position, and token j is the next one.
pub record Finds (ts : List Lexeme) (c : ℕ) (p : Place) (i j : ℕ) : Type 0 where
  pub token : Lexeme
  pub whole : drop i ts ≡ token ∷ drop j ts
  pub class : kind_class token.kind ≡ c
  pub place : token.place ≡ p

-- The fault is the outcome for which P holds, or out of memory.
abbrev pub FaultIs : List Lexeme → (Outcome State → Type 0) → Fault → Type 0
FaultIs ts P faults.NoMemory = Unit {0}
FaultIs ts P (faults.Wrong i) = P (Stops (length (drop i ts)))
FaultIs ts P (faults.TooDeep i) = P (Exceeds (length (drop i ts)))

pub record Faults (ts : List Lexeme) (P : Outcome State → Type 0) (e : Fault) : Type 0 where
  pub ends : FaultIs ts P e

-- Token i is not of the class, whichever way a token of the class is to be read.
abbrev pub Misses : List Lexeme → ℕ → ℕ → Fault → Type 0
Misses ts c i = Faults ts (λ o. (way : Way) (s : List Sym) (v : State) → Goes (Terminal c way ∷ s) v (drop i ts) o)

-- A token follows where the text should end.
abbrev pub Follows : List Lexeme → ℕ → Fault → Type 0
Follows ts i = Faults ts (λ o. (v : State) → Goes [] v (drop i ts) o)

-- Reading the symbol leads from token i to token j, and from some values on top to others; it consumes at least this many tokens.
pub record Turns (ts : List Lexeme) (x : Sym) (before after : List Value) (i j least : ℕ) : Type 0 where
  pub leads : (s : List Sym) (cs : List ℕ) (vs : List Value) (o : Outcome State) → Goes s (at cs (after ++ vs)) (drop j ts) o → Goes (x ∷ s) (at cs (before ++ vs)) (drop i ts) o
  pub shrinks : length (drop j ts) + least ≤ length (drop i ts)

-- Reading the symbol has come from token i to token j, and the symbol is still to be read; at least this many tokens have been consumed.
pub record TurnsYet (ts : List Lexeme) (x : Sym) (before after : List Value) (i j least : ℕ) : Type 0 where
  pub leads : (s : List Sym) (cs : List ℕ) (vs : List Value) (o : Outcome State) → Goes (x ∷ s) (at cs (after ++ vs)) (drop j ts) o → Goes (x ∷ s) (at cs (before ++ vs)) (drop i ts) o
  pub shrinks : length (drop j ts) + least ≤ length (drop i ts)

-- Reading the symbol from token i on ends with this fault.
abbrev pub Ends : List Lexeme → Sym → List Value → ℕ → Fault → Type 0
Ends ts x before i = Faults ts (λ o. (s : List Sym) (cs : List ℕ) (vs : List Value) → Goes (x ∷ s) (at cs (before ++ vs)) (drop i ts) o)

-- In an expression reading the name leads from token i to token j, from one count to another, and pushes values.
pub record Reads (ts : List Lexeme) (n c : ℕ) (after : List Value) (c' i j : ℕ) : Type 0 where
  pub leads : (s : List Sym) (cs : List ℕ) (vs : List Value) (o : Outcome State) → Goes s (at (c' ∷ cs) (after ++ vs)) (drop j ts) o → Goes (Nonterminal n ∷ s) (at (c ∷ cs) vs) (drop i ts) o
  pub grows : c ≤ c'
  pub limit : c' ≤ 64
  pub shrinks : length (drop j ts) + 1 ≤ length (drop i ts)

-- Reading the name has come to token j, and another name is still to be read.
pub record ReadsYet (ts : List Lexeme) (n c m : ℕ) (after : List Value) (c' i j : ℕ) : Type 0 where
  pub leads : (s : List Sym) (cs : List ℕ) (vs : List Value) (o : Outcome State) → Goes (Nonterminal m ∷ s) (at (c' ∷ cs) (after ++ vs)) (drop j ts) o → Goes (Nonterminal n ∷ s) (at (c ∷ cs) vs) (drop i ts) o
  pub grows : c ≤ c'
  pub limit : c' ≤ 64
  pub shrinks : length (drop j ts) + 1 ≤ length (drop i ts)

abbrev pub Fails : List Lexeme → (nonterminal count index : ℕ) → Fault → Type 0
Fails ts n c i = Faults ts (λ o. (s : List Sym) (cs : List ℕ) (vs : List Value) → Goes (Nonterminal n ∷ s) (at (c ∷ cs) vs) (drop i ts) o)

-- The same for expressions in a bracket with commas between them, and the token of the class that closes it: a comma resets what has been counted in the bracket.
pub record Lists (ts : List Lexeme) (k : ℕ) (es : List Expr) (d i j : ℕ) : Type 0 where
  pub leads : (s : List Sym) (c : ℕ) (cs : List ℕ) (vs : List Value) (o : Outcome State) → d ≡ c + 1
      → Goes s (at (c ∷ cs) (exprs es ∷ vs)) (drop j ts) o → Goes (Nonterminal EXPRS ∷ Terminal k closes ∷ s) (at (d ∷ c ∷ cs) vs) (drop i ts) o
  pub shrinks : length (drop j ts) + 1 ≤ length (drop i ts)

-- Reading them has come to token j, and the rest is still to be read.
pub record ListsYet (ts : List Lexeme) (es : List Expr) (d i j : ℕ) : Type 0 where
  pub leads : (s : List Sym) (c : ℕ) (cs : List ℕ) (vs : List Value) (o : Outcome State) → d ≡ c + 1
      → ((f : ℕ) → Goes (Nonterminal PARTS ∷ s) (at (f ∷ c ∷ cs) (exprs es ∷ vs)) (drop j ts) o) → Goes (Nonterminal EXPRS ∷ s) (at (d ∷ c ∷ cs) vs) (drop i ts) o
  pub shrinks : length (drop j ts) + 1 ≤ length (drop i ts)

abbrev pub FailsList : List Lexeme → (bracket depth index : ℕ) → Fault → Type 0
FailsList ts k d i = Faults ts (λ o. (s : List Sym) (c : ℕ) (cs : List ℕ) (vs : List Value) → d ≡ c + 1 → Goes (Nonterminal EXPRS ∷ Terminal k closes ∷ s) (at (d ∷ c ∷ cs) vs) (drop i ts) o)

-- The complete text, from its first token on, leads to this outcome.
abbrev pub JobGoes : List Lexeme → Outcome State → Type 0
JobGoes ts o = Goes (Nonterminal JOB ∷ []) (at [] []) (drop 0 ts) o
