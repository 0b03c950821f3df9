-- Grammars as data, and what a leftmost derivation reads.
--
-- EBNF                    here
-- x = a b c               (X, (a ∷ b ∷ c ∷ []) ∷ [])
-- x = a | b               (X, (a ∷ []) ∷ (b ∷ []) ∷ [])
-- [ a ]                   a name of its own with the alternatives  a ∷ []  and  []
-- { a }                   a name of its own, L, with the alternatives  a ∷ Nonterminal L ∷ []  and  []
use Rattle.std.specs.Prelude.{ℕ, suc, ◌≡◌, ◌==◌, ◌≤◌, List, [], ◌∷◌, ◌++◌, length, Bool, true, false, cond}

-- A symbol of an alternative: a token of a class, and the way in which it is read; a name that has alternatives; or
-- an action, which builds and reads no token.
pub data Symbol (W B : Type 0) : Type 0 where
  Terminal : ℕ → W → Symbol W B
  Nonterminal : ℕ → Symbol W B
  Action : B → Symbol W B

-- names, each with its alternatives
abbrev pub Rules : Type 0 → Type 0 → Type 0
Rules W B = List (ℕ × List (List (Symbol W B)))

-- the alternatives of a name, those of its first rule
abbrev pub alternatives : {W B : Type 0} → Rules W B → ℕ → List (List (Symbol W B))
alternatives [] n = []
alternatives (r ∷ rs) n = cond (r.0 == n) r.1 (alternatives rs n)

-- the list has the item
pub data Has {A : Type 0} : A → List A → Type 0 where
  here : {x : A} {xs : List A} → Has x (x ∷ xs)
  there : {x y : A} {xs : List A} → Has x xs → Has x (y ∷ xs)

-- A grammar over tokens X whose sentences build a state S: the class of a token, the rules, the state
-- after a token is read in a way, and the state after an action.
pub record Grammar (W B X S : Type 0) : Type 0 where
  pub class : X → ℕ
  pub rules : Rules W B
  pub reads : W → X → S → S
  pub builds : B → S → S

-- Some steps of a leftmost derivation lead from the symbols to be read, the state and the tokens to other symbols,
-- another state and the remaining tokens: no step; the first symbol is a name and is replaced by one of its
-- alternatives; it is a terminal, and reads a token of its class; or it is an action.
pub data Derives {W B X S : Type 0} (g : Grammar W B X S) : List (Symbol W B) → S → List X → List (Symbol W B) → S → List X → Type 0 where
  stay : {s : List (Symbol W B)} {v : S} {ts : List X} → Derives g s v ts s v ts
  expand : {n : ℕ} {s : List (Symbol W B)} {v : S} {ts : List X} {s' : List (Symbol W B)} {v' : S} {left : List X} (body : List (Symbol W B))
      → Has body (alternatives g.rules n) → Derives g (body ++ s) v ts s' v' left → Derives g (Nonterminal n ∷ s) v ts s' v' left
  read : {c : ℕ} {way : W} {t : X} {s : List (Symbol W B)} {v : S} {ts : List X} {s' : List (Symbol W B)} {v' : S} {left : List X}
      → g.class t ≡ c → Derives g s (g.reads way t v) ts s' v' left → Derives g (Terminal c way ∷ s) v (t ∷ ts) s' v' left
  build : {a : B} {s : List (Symbol W B)} {v : S} {ts : List X} {s' : List (Symbol W B)} {v' : S} {left : List X}
      → Derives g s (g.builds a v) ts s' v' left → Derives g (Action a ∷ s) v ts s' v' left

-- The tokens are a sentence of the name, which builds the state w from v.
abbrev pub IsSentence : {W B X S : Type 0} → Grammar W B X S → ℕ → S → List X → S → Type 0
IsSentence g n v ts w = Derives g (Nonterminal n ∷ []) v ts [] w []

-- Some leftmost derivation from the name reads the tokens up to the remaining ones.
abbrev pub Begins : {W B X S : Type 0} → Grammar W B X S → ℕ → S → List X → List X → Type 0
Begins {W} {B} {X} {S} g n v ts left = (s : List (Symbol W B)) × (w : S) × Derives g (Nonterminal n ∷ []) v ts s w left

-- The longest viable prefix leaves the last k tokens: the first of them is the first wrong one, or, for k = 0, the
-- text ends before the sentence does.
pub record IsWrongAt {W B X S : Type 0} (g : Grammar W B X S) (n : ℕ) (v : S) (ts : List X) (k : ℕ) : Type 0 where
  pub viable : (left : List X) × (length left ≡ k) × Begins g n v ts left
  pub longest : (left : List X) → Begins g n v ts left → k ≤ length left
  pub unfinished : (w : S) → IsSentence g n v ts w → ⊥

-- A limit on what is built: no action changes whether it is exceeded, and once exceeded it stays so.
pub record IsLimit {W B X S : Type 0} (g : Grammar W B X S) (over : S → Bool) : Type 0 where
  pub keeps : (a : B) (v : S) → over (g.builds a v) ≡ over v
  pub stays : (way : W) (t : X) (v : S) → over v ≡ true → over (g.reads way t v) ≡ true

-- Before the last k tokens nothing exceeds the limit.
abbrev pub IsWithin : {W B X S : Type 0} → Grammar W B X S → (S → Bool) → ℕ → S → List X → ℕ → Type 0
IsWithin {W} {B} {X} {S} g over n v ts k = (s : List (Symbol W B)) (w : S) (left : List X) → Derives g (Nonterminal n ∷ []) v ts s w left → k ≤ length left → over w ≡ false

-- The first token that exceeds the limit is the first of the last k tokens.
pub record IsOverAt {W B X S : Type 0} (g : Grammar W B X S) (over : S → Bool) (n : ℕ) (v : S) (ts : List X) (k : ℕ) : Type 0 where
  pub passes : (s : List (Symbol W B)) × (w : S) × (left : List X) × (suc (length left) ≡ k) × (over w ≡ true) × Derives g (Nonterminal n ∷ []) v ts s w left
  pub first : IsWithin g over n v ts k
