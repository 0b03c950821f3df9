-- Tests of a grammar that compute: for a grammar that passes them, what can follow is what its stack begins with.
use Rattle.std.specs.Prelude.{ℕ, zero, suc, ◌+◌, ◌≡◌, ◌==◌, nat_lt, List, [], ◌∷◌, ◌++◌, Bool, true, false, not, cond, ◌||◌, ◌&&◌, Option, Some, None}
use Rattle.kp_grammar.specs.Grammar.{Terminal, Nonterminal, Action, alternatives}
use Rattle.kp_grammar.specs.Tables.{Tables, END_OF_TEXT, among, empty_of, after_of, firsts, vanishes, pick, rules_fit}
use Rattle.kp_grammar.specs.Ranks.{Ranks}
use Rattle.kp_expected.specs.Plain.{Plain, PlainRules}

-- a measure of the names before a token is read
abbrev pub work : Tables → Ranks → List Plain → ℕ
work t rank [] = 0
work t rank (Terminal c way ∷ s) = 0
work t rank (Action a ∷ s) = work t rank s
work t rank (Nonterminal n ∷ s) = suc (rank n) + cond (empty_of t n) (work t rank s) 0

-- The symbols are read within k steps, where each name becomes its alternative before a token of the class `short`; `known` says whether a class is one of the language.
abbrev pub and_then : {A : Type 0} → Option A → (A → Bool) → Bool
and_then None go = false
and_then (Some x) go = go x

abbrev pub ends : PlainRules → Tables → (ℕ → Bool) → ℕ → ℕ → List Plain → Bool
ends rules t known short zero s = false
ends rules t known short (suc k) [] = true
ends rules t known short (suc k) (Terminal c way ∷ s) = known c && ends rules t known short k s
ends rules t known short (suc k) (Action a ∷ s) = false
ends rules t known short (suc k) (Nonterminal n ∷ s) = and_then (pick rules t n short) (λ b. ends rules t known short k (b ++ s))

-- each of the symbols has a sentence
abbrev pub all_end : PlainRules → Tables → (ℕ → Bool) → ℕ → List Plain → Bool
all_end rules t known short [] = true
all_end rules t known short (x ∷ s) = ends rules t known short 200 (x ∷ []) && all_end rules t known short s

-- An alternative has less work than its name, is empty only if the name may be, and each of its symbols has a sentence.
abbrev pub body_fits : PlainRules → Tables → Ranks → (ℕ → Bool) → ℕ → ℕ → List Plain → Bool
body_fits rules t rank known short n b =
    (nat_lt (work t rank b) (suc (rank n)) && (not (vanishes t b) || empty_of t n)) && all_end rules t known short b

abbrev pub bodies_fit : PlainRules → Tables → Ranks → (ℕ → Bool) → ℕ → ℕ → List (List Plain) → Bool
bodies_fit rules t rank known short n [] = true
bodies_fit rules t rank known short n (b ∷ bs) = body_fits rules t rank known short n b && bodies_fit rules t rank known short n bs

abbrev pub all_fit : PlainRules → Tables → Ranks → (ℕ → Bool) → ℕ → PlainRules → Bool
all_fit rules t rank known short [] = true
all_fit rules t rank known short (r ∷ rs) = bodies_fit rules t rank known short r.0 r.1 && all_fit rules t rank known short rs

-- an alternative begins with the class; one is empty
abbrev pub some_begins : Tables → ℕ → List (List Plain) → Bool
some_begins t c [] = false
some_begins t c (b ∷ bs) = among c (firsts t b) || some_begins t c bs

abbrev pub is_empty : List Plain → Bool
is_empty [] = true
is_empty (x ∷ s) = false

abbrev pub some_empty : List (List Plain) → Bool
some_empty [] = false
some_empty (b ∷ bs) = is_empty b || some_empty bs

abbrev pub each_begins : Tables → List (List Plain) → List ℕ → Bool
each_begins t bs [] = true
each_begins t bs (c ∷ cs) = some_begins t c bs && each_begins t bs cs

-- Each first class of a name is one of an alternative, and a nullable name has an empty alternative.
abbrev pub rows_exact : PlainRules → Tables → Tables → Bool
rows_exact rules t [] = true
rows_exact rules t (r ∷ rs) = (each_begins t (alternatives rules r.name) r.first && (not r.empty || some_empty (alternatives rules r.name))) && rows_exact rules t rs

-- whether one of these classes has the number
abbrev pub known_among : {C : Type 0} → (C → ℕ) → List C → ℕ → Bool
known_among number [] c = false
known_among number (x ∷ xs) c = (number x == c) || known_among number xs c

-- THE TESTS;
pub record IsReadable {C : Type 0} (number : C → ℕ) (rules : PlainRules) (t : Tables) (rank : Ranks) : Type 0 where
  -- the classes of the language
  pub classes : List C
  pub short : ℕ
  pub fits : rules_fit t rules ≡ true
  pub bodies : all_fit rules t rank (known_among number classes) short rules ≡ true
  pub exact : rows_exact rules t t ≡ true

-- and those of the name of the sentences.
pub record IsReadableName {C : Type 0} (number : C → ℕ) (rules : PlainRules) (t : Tables) (rank : Ranks) (n : ℕ) : Type 0 where
  pub readable : IsReadable number rules t rank
  pub at_end : among END_OF_TEXT (after_of t n) ≡ true
  pub has_sentence : ends rules t (known_among number readable.classes) readable.short 200 (Nonterminal n ∷ []) ≡ true
