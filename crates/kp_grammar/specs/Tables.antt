-- First and follow tables, and a test that computes: the next token determines the alternative.
use Rattle.std.specs.Prelude.{ℕ, ◌≡◌, ◌==◌, List, [], ◌∷◌, ◌++◌, Bool, true, false, not, cond, ◌||◌, ◌&&◌, Option, Some, None}
use Rattle.kp_grammar.specs.Grammar.{Symbol, Terminal, Nonterminal, Action, Rules, alternatives, Grammar}

-- the class of the end of the text, which no token has
abbrev pub END_OF_TEXT : ℕ
END_OF_TEXT = 0

abbrev pub among : ℕ → List ℕ → Bool
among c [] = false
among c (d ∷ ds) = (c == d) || among c ds

abbrev pub within : List ℕ → List ℕ → Bool
within [] ys = true
within (x ∷ xs) ys = among x ys && within xs ys

abbrev pub apart : List ℕ → List ℕ → Bool
apart [] ys = true
apart (x ∷ xs) ys = not (among x ys) && apart xs ys

-- for a name its first classes (FIRST), whether it is nullable, and the classes that may follow it (FOLLOW)
pub record Row : Type 0 where
  pub name : ℕ
  pub first : List ℕ
  pub empty : Bool
  pub after : List ℕ

abbrev pub Tables : Type 0
Tables = List Row

abbrev pub first_of : Tables → ℕ → List ℕ
first_of [] n = []
first_of (r ∷ rs) n = cond (r.name == n) r.first (first_of rs n)

abbrev pub empty_of : Tables → ℕ → Bool
empty_of [] n = false
empty_of (r ∷ rs) n = cond (r.name == n) r.empty (empty_of rs n)

abbrev pub after_of : Tables → ℕ → List ℕ
after_of [] n = []
after_of (r ∷ rs) n = cond (r.name == n) r.after (after_of rs n)

-- the first classes of a list of symbols
abbrev pub firsts : {W B : Type 0} → Tables → List (Symbol W B) → List ℕ
firsts t [] = []
firsts t (Terminal c way ∷ s) = c ∷ []
firsts t (Nonterminal n ∷ s) = first_of t n ++ cond (empty_of t n) (firsts t s) []
firsts t (Action a ∷ s) = firsts t s

-- whether a list of symbols is nullable
abbrev pub vanishes : {W B : Type 0} → Tables → List (Symbol W B) → Bool
vanishes t [] = true
vanishes t (Terminal c way ∷ s) = false
vanishes t (Nonterminal n ∷ s) = empty_of t n && vanishes t s
vanishes t (Action a ∷ s) = vanishes t s

-- the first alternative that starts with the class, else the last one
abbrev pub choose : {W B : Type 0} → Tables → ℕ → List (List (Symbol W B)) → Option (List (Symbol W B))
choose t c [] = None
choose t c (b ∷ []) = Some b
choose t c (b ∷ d ∷ bs) = cond (among c (firsts t b)) (Some b) (choose t c (d ∷ bs))

-- the alternative of a name, for the class of the next token
abbrev pub pick : {W B : Type 0} → Rules W B → Tables → ℕ → ℕ → Option (List (Symbol W B))
pick rs t n c = choose t c (alternatives rs n)

-- the follow set of each name in a body contains what may follow it there, where `after` follows the body
abbrev pub follows_fit : {W B : Type 0} → Tables → List ℕ → List (Symbol W B) → Bool
follows_fit t after [] = true
follows_fit t after (Terminal c way ∷ s) = follows_fit t after s
follows_fit t after (Action a ∷ s) = follows_fit t after s
follows_fit t after (Nonterminal n ∷ s) = within (firsts t s) (after_of t n) && ((not (vanishes t s) || within after (after_of t n)) && follows_fit t after s)

-- the table row of the name covers the body
abbrev pub body_fits : {W B : Type 0} → Tables → ℕ → List (Symbol W B) → Bool
body_fits t n b = within (firsts t b) (first_of t n) && ((not (vanishes t b) || empty_of t n) && follows_fit t (after_of t n) b)

-- no body starts with one of the classes
abbrev pub all_apart : {W B : Type 0} → Tables → List ℕ → List (List (Symbol W B)) → Bool
all_apart t xs [] = true
all_apart t xs (b ∷ bs) = apart xs (firsts t b) && all_apart t xs bs

abbrev pub last_vanishes : {W B : Type 0} → Tables → List (List (Symbol W B)) → Bool
last_vanishes t [] = false
last_vanishes t (b ∷ []) = vanishes t b
last_vanishes t (b ∷ d ∷ bs) = last_vanishes t (d ∷ bs)

-- two bodies start with different classes, and none but the last is nullable
abbrev pub bodies_fit : {W B : Type 0} → Tables → ℕ → List (List (Symbol W B)) → Bool
bodies_fit t n [] = true
bodies_fit t n (b ∷ []) = body_fits t n b
bodies_fit t n (b ∷ d ∷ bs) = body_fits t n b && (all_apart t (firsts t b) (d ∷ bs) && (not (vanishes t b) && bodies_fit t n (d ∷ bs)))

-- if the last body is nullable, none starts with a class that may follow the name
abbrev pub rule_fits : {W B : Type 0} → Tables → ℕ → List (List (Symbol W B)) → Bool
rule_fits t n bs = bodies_fit t n bs && (not (last_vanishes t bs) || all_apart t (after_of t n) bs)

abbrev pub rules_fit : {W B : Type 0} → Tables → Rules W B → Bool
rules_fit t [] = true
rules_fit t (r ∷ rs) = rule_fits t r.0 r.1 && rules_fit t rs

-- The grammar is predictive, according to the tables, and the text may end after the name. Both fields are `refl` for
-- a concrete grammar and tables.
pub record IsPredictive {W B X S : Type 0} (g : Grammar W B X S) (t : Tables) (n : ℕ) : Type 0 where
  pub fits : rules_fit t g.rules ≡ true
  pub ends : among END_OF_TEXT (after_of t n) ≡ true
