-- What the test on tables says of each name.
use Rattle.std.proofs.Common.{ℕ, ◌≡◌, List, [], ◌∷◌, true, Some}
use Rattle.kp_grammar.specs.Grammar.{Symbol, Nonterminal, Rules, alternatives, Has}
use Rattle.kp_grammar.specs.Tables.{Tables, among, first_of, empty_of, after_of, firsts, vanishes, pick}

-- the follow set of each name in a body contains what may follow it there, where `after` follows the body
abbrev pub Follows : {W B : Type 0} → Tables → List ℕ → List (Symbol W B) → Type 0
Follows t after [] = Unit {0}
Follows t after (Nonterminal n ∷ s) =
    ((c : ℕ) → among c (firsts t s) ≡ true → among c (after_of t n) ≡ true)
    × (vanishes t s ≡ true → (c : ℕ) → among c after ≡ true → among c (after_of t n) ≡ true)
    × Follows t after s
Follows t after (x ∷ s) = Follows t after s

-- a body starts with classes of its name's row and is nullable only if the row says so; it is chosen at each class
-- that it starts with and, if it is nullable, at each that may follow
pub record Decides {W B : Type 0} (rs : Rules W B) (t : Tables) : Type 0 where
  pub begins : (n c : ℕ) (b : List (Symbol W B)) → Has b (alternatives rs n) → among c (firsts t b) ≡ true → among c (first_of t n) ≡ true
  pub empties : (n : ℕ) (b : List (Symbol W B)) → Has b (alternatives rs n) → vanishes t b ≡ true → empty_of t n ≡ true
  pub picks : (n c : ℕ) (b : List (Symbol W B)) → Has b (alternatives rs n) → among c (firsts t b) ≡ true → pick rs t n c ≡ Some b
  pub picks_empty : (n c : ℕ) (b : List (Symbol W B)) → Has b (alternatives rs n) → vanishes t b ≡ true → among c (after_of t n) ≡ true → pick rs t n c ≡ Some b
  pub follows : (n : ℕ) (b : List (Symbol W B)) → Has b (alternatives rs n) → Follows t (after_of t n) b
