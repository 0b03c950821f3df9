-- Ranks of names, and a test that computes: before a token is read, a name leads only to names of lower rank. So no
-- name leads back to itself, and the machine terminates.
use Rattle.std.specs.Prelude.{ℕ, List, [], ◌∷◌, Bool, true, not, ◌||◌, ◌&&◌, ◌==◌, nat_lt}
use Rattle.kp_grammar.specs.Grammar.{Symbol, Terminal, Nonterminal, Action, Rules}
use Rattle.kp_grammar.specs.Tables.{Tables, empty_of, END_OF_TEXT}

abbrev pub Ranks : Type 0
Ranks = ℕ → ℕ

-- the names at the front of a body, up to the first that reads a token, have ranks below r
abbrev pub front_below : {W B : Type 0} → Tables → Ranks → ℕ → List (Symbol W B) → Bool
front_below t rank r [] = true
front_below t rank r (Terminal c way ∷ s) = true
front_below t rank r (Action a ∷ s) = front_below t rank r s
front_below t rank r (Nonterminal n ∷ s) = nat_lt (rank n) r && (not (empty_of t n) || front_below t rank r s)

-- no terminal is the end of the text
abbrev pub is_within_text : {W B : Type 0} → List (Symbol W B) → Bool
is_within_text [] = true
is_within_text (Terminal c way ∷ s) = not (c == END_OF_TEXT) && is_within_text s
is_within_text (Action a ∷ s) = is_within_text s
is_within_text (Nonterminal n ∷ s) = is_within_text s

-- both, for each alternative of a name of rank r
abbrev pub bodies_below : {W B : Type 0} → Tables → Ranks → ℕ → List (List (Symbol W B)) → Bool
bodies_below t rank r [] = true
bodies_below t rank r (b ∷ bs) = (front_below t rank r b && is_within_text b) && bodies_below t rank r bs

-- .. and for each name
abbrev pub ranks_fit : {W B : Type 0} → Tables → Ranks → Rules W B → Bool
ranks_fit t rank [] = true
ranks_fit t rank (x ∷ xs) = bodies_below t rank (rank x.0) x.1 && ranks_fit t rank xs
