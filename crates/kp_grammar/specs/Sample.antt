-- A small example grammar: sums of numbers with brackets, of which at most two may be open.
--
-- sum  = term { '+' term }
-- term = NUMBER | '(' sum ')'
use Rattle.std.specs.Prelude.{ℕ, ◌+◌, ◌-◌, ◌==◌, nat_lt, List, [], ◌∷◌, Bool, true, false, cond, ◌||◌}
use Rattle.kp_grammar.specs.{Grammar.Terminal, Grammar.Nonterminal, Grammar.Action, Grammar.Rules, Grammar.Grammar, Tables.Tables, Ranks.Ranks}

pub data Token : Type 0 where
  number : ℕ → Token
  plus : Token
  opening : Token
  closing : Token

abbrev pub class : Token → ℕ
class (number n) = 1
class plus = 2
class opening = 3
class closing = 4

-- how many brackets are open, whether there were ever more than two, and the sums so far
pub record State : Type 0 where
  pub depth : ℕ
  pub over : Bool
  pub sums : List ℕ

pub data Way : Type 0 where
  plainly : Way
  as_value : Way
  as_opening : Way
  as_closing : Way

pub data Step : Type 0 where
  add : Step

abbrev pub value_of : Token → ℕ
value_of (number n) = n
value_of _ = 0

abbrev pub read_token : Way → Token → State → State
read_token plainly t v = v
read_token as_value t v = record v { sums = value_of t ∷ v.sums }
read_token as_opening t v = record v { depth = v.depth + 1; over = v.over || nat_lt 2 (v.depth + 1) }
read_token as_closing t v = record v { depth = v.depth - 1 }

abbrev pub added : List ℕ → List ℕ
added (b ∷ a ∷ sums) = (a + b) ∷ sums
added sums = sums

abbrev pub built : Step → State → State
built add v = record v { sums = added v.sums }

abbrev pub SUM : ℕ
SUM = 1

abbrev pub MORE : ℕ
MORE = 2

abbrev pub TERM : ℕ
TERM = 3

abbrev pub rules : Rules Way Step
rules =
    (SUM, (Nonterminal TERM ∷ Nonterminal MORE ∷ []) ∷ [])
    ∷ (MORE, (Terminal 2 plainly ∷ Nonterminal TERM ∷ Action add ∷ Nonterminal MORE ∷ []) ∷ [] ∷ [])
    ∷ (TERM, (Terminal 1 as_value ∷ []) ∷ (Terminal 3 as_opening ∷ Nonterminal SUM ∷ Terminal 4 as_closing ∷ []) ∷ [])
    ∷ []

abbrev pub tables : Tables
tables =
    (record { name = SUM; first = 1 ∷ 3 ∷ []; empty = false; after = 0 ∷ 4 ∷ [] })
    ∷ (record { name = MORE; first = 2 ∷ []; empty = true; after = 0 ∷ 4 ∷ [] })
    ∷ (record { name = TERM; first = 1 ∷ 3 ∷ []; empty = false; after = 0 ∷ 2 ∷ 4 ∷ [] })
    ∷ []

-- a sum starts with a term, and has a higher rank
abbrev pub ranks : Ranks
ranks n = cond (n == SUM) 1 0

abbrev pub sums : Grammar Way Step Token State
sums = record { class = class; rules = rules; reads = read_token; builds = built }

abbrev pub start : State
start = record { depth = 0; over = false; sums = [] }

abbrev pub is_over : State → Bool
is_over v = v.over

-- three rules that the test rejects, each with tables that cover it: two alternatives start alike; two are nullable;
-- a token that may follow the name starts an alternative next to a nullable one
abbrev pub alike : Rules Way Step
alike = (SUM, (Terminal 1 plainly ∷ []) ∷ (Terminal 1 plainly ∷ Terminal 3 plainly ∷ []) ∷ []) ∷ []

abbrev pub two_vanish : Rules Way Step
two_vanish = (MORE, (Action add ∷ []) ∷ [] ∷ []) ∷ []

abbrev pub followed : Rules Way Step
followed = (MORE, (Terminal 2 plainly ∷ []) ∷ [] ∷ []) ∷ []

abbrev pub followed_tables : Tables
followed_tables = (record { name = MORE; first = 2 ∷ []; empty = true; after = 2 ∷ [] }) ∷ []

-- a rule for which there are no ranks: before a token is read, its name leads back to itself
abbrev pub round : Rules Way Step
round = (SUM, (Nonterminal SUM ∷ Terminal 2 plainly ∷ []) ∷ (Terminal 1 plainly ∷ []) ∷ []) ∷ []
