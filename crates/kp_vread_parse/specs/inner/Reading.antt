-- The contracts of the parser's functions: the steps of the machine. Tokens are numbered from 0.
use Rattle.std.specs.Prelude.{ℕ, ◌+◌, ◌≤◌, List, [], ◌∷◌, ◌++◌, length, drop, Bool, false}
use Rattle.kp_grammar.specs.{Grammar.Nonterminal, Machine.Outcome, Machine.Stops, Machine.Leads, Machine.look}
use Rattle.kp_vlog.specs.{Tokens.Token, Language.Sym, Language.Value, Language.MODULE, Language.verilog, inner.Follow.tables}
use Rattle.kp_vread_parse.specs.declared.fault.Fault.{Fault}
use Rattle.kp_vread_parse.specs.declared.fault.Fault.TheVariants as faults

-- nothing nests in a module, so there is no limit to exceed
abbrev pub never : List Value → Bool
never vs = false

abbrev pub Goes : List Sym → List Value → List Token → Outcome (List Value) → Type 0
Goes s vs ts o = Leads verilog never tables s vs ts o

-- the class of token i
abbrev pub class_at : List Token → ℕ → ℕ
class_at ts i = look verilog (drop i ts)

-- The fault is the outcome of which P is true, or out of memory.
abbrev pub FaultIs : List Token → (Outcome (List Value) → Type 0) → Fault → Type 0
FaultIs ts P faults.NoMemory = Unit {0}
FaultIs ts P (faults.Wrong i) = P (Stops (length (drop i ts)))

pub record Faults (ts : List Token) (P : Outcome (List Value) → Type 0) (e : Fault) : Type 0 where
  pub ends : FaultIs ts P e

-- A token follows where the text should end.
abbrev pub Follows : List Token → ℕ → Fault → Type 0
Follows ts i = Faults ts (λ o. (vs : List Value) → Goes [] vs (drop i ts) o)

-- Reading the symbols leads from token i to token j, and from some values on top to others; it reads at least `least` tokens.
pub record Turns (ts : List Token) (xs : List Sym) (before after : List Value) (i j least : ℕ) : Type 0 where
  pub leads : (s : List Sym) (vs : List Value) (o : Outcome (List Value)) → Goes s (after ++ vs) (drop j ts) o → Goes (xs ++ s) (before ++ vs) (drop i ts) o
  pub shrinks : length (drop j ts) + least ≤ length (drop i ts)

-- The machine is at this token, and other symbols are still to be read.
pub record TurnsYet (ts : List Token) (xs ys : List Sym) (before after : List Value) (i j : ℕ) : Type 0 where
  pub leads : (s : List Sym) (vs : List Value) (o : Outcome (List Value)) → Goes (ys ++ s) (after ++ vs) (drop j ts) o → Goes (xs ++ s) (before ++ vs) (drop i ts) o
  pub shrinks : length (drop j ts) ≤ length (drop i ts)

-- Reading the symbols from token i on ends with this fault.
abbrev pub Ends : List Token → List Sym → List Value → ℕ → Fault → Type 0
Ends ts xs before i = Faults ts (λ o. (s : List Sym) (vs : List Value) → Goes (xs ++ s) (before ++ vs) (drop i ts) o)

-- Reading the complete text, from its first token on, ends with this outcome.
abbrev pub ModuleGoes : List Token → Outcome (List Value) → Type 0
ModuleGoes ts o = Goes (Nonterminal MODULE ∷ []) [] (drop 0 ts) o
