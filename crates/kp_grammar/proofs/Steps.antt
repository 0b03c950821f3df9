-- What is computed is a derivation.
use Rattle.std.proofs.Common.{ℕ, zero, suc, ◌≡◌, ◌==◌, List, [], ◌∷◌, ◌++◌, Bool, true, false, cond, Option, Some, None, refl}
use Rattle.std.proofs.lemmas.Bool.{eqb-true}
use Rattle.kp_grammar.specs.Grammar.{Symbol, Terminal, Nonterminal, Action, Grammar, Has, alternatives, Derives, expand, read, build}
use Rattle.kp_grammar.specs.{Tables.Tables, Tables.pick, Machine.look, Machine.Config, Machine.goes_on, Machine.advance}
use Rattle.kp_grammar.proofs.TableTests.{picks_rule}

module _ {W B X S : Type 0} (g : Grammar W B X S) (t : Tables) (s'' : List (Symbol W B)) (v'' : S) (ts'' : List X) where
  -- what is derived from the end of the steps is derived from their start
  abbrev pub Advanced : List (Symbol W B) → S → List X → Option (Config W B X S) → Type 0
  Advanced s v ts None = Unit {0}
  Advanced s v ts (Some c) = Derives g c.symbols c.state c.tokens s'' v'' ts'' → Derives g s v ts s'' v'' ts''

  reads_one : (c : ℕ) (w : W) (s : List (Symbol W B)) (v : S) (x : X) (xs : List X) (o : Option (Config W B X S)) (b : Bool) → (g.class x == c) ≡ b
      → Advanced s (g.reads w x v) xs o → Advanced (Terminal c w ∷ s) v (x ∷ xs) (cond b o None)
  reads_one c w s v x xs None true e h = tt
  reads_one c w s v x xs (Some r) true e h = λ d. read (eqb-true (g.class x) c e) (h d)
  reads_one c w s v x xs o false e h = tt

  expands_some : (n : ℕ) (s : List (Symbol W B)) (v : S) (ts : List X) (b : List (Symbol W B)) (o : Option (Config W B X S)) → Has b (alternatives g.rules n)
      → Advanced (b ++ s) v ts o → Advanced (Nonterminal n ∷ s) v ts o
  expands_some n s v ts b None m h = tt
  expands_some n s v ts b (Some r) m h = λ d. expand b m (h d)

  expands : (n : ℕ) (s : List (Symbol W B)) (v : S) (ts : List X) (go : List (Symbol W B) → Option (Config W B X S)) (o : Option (List (Symbol W B)))
      → pick g.rules t n (look g ts) ≡ o → ((b : List (Symbol W B)) → Advanced (b ++ s) v ts (go b)) → Advanced (Nonterminal n ∷ s) v ts (goes_on o go)
  expands n s v ts go None e h = tt
  expands n s v ts go (Some b) e h = expands_some n s v ts b (go b) (picks_rule g.rules t n (look g ts) b e) (h b)

  builds_one : (a : B) (s : List (Symbol W B)) (v : S) (ts : List X) (o : Option (Config W B X S)) → Advanced s (g.builds a v) ts o → Advanced (Action a ∷ s) v ts o
  builds_one a s v ts None h = tt
  builds_one a s v ts (Some r) h = λ d. build (h d)

  pub advanced : (k : ℕ) (s : List (Symbol W B)) (v : S) (ts : List X) → Advanced s v ts (advance g t k s v ts)
  advanced zero s v ts = λ d. d
  advanced (suc k) [] v ts = tt
  advanced (suc k) (Terminal c w ∷ s) v [] = tt
  advanced (suc k) (Terminal c w ∷ s) v (x ∷ xs) = reads_one c w s v x xs (advance g t k s (g.reads w x v) xs) (g.class x == c) refl (advanced k s (g.reads w x v) xs)
  advanced (suc k) (Nonterminal n ∷ s) v ts = expands n s v ts (λ b. advance g t k (b ++ s) v ts) (pick g.rules t n (look g ts)) refl (λ b. advanced k (b ++ s) v ts)
  advanced (suc k) (Action a ∷ s) v ts = builds_one a s v ts (advance g t k s (g.builds a v) ts) (advanced k s (g.builds a v) ts)

module _ {W B X S : Type 0} (g : Grammar W B X S) (t : Tables) (P : S → Type 0) where
  -- What is left to be read ends as a sentence that builds a state with the property.
  pub record Completes (s : List (Symbol W B)) (v : S) (ts : List X) : Type 0 where
    pub built : S
    pub holds : P built
    pub derives : Derives g s v ts [] built []

  abbrev pub CompletesFrom : Option (Config W B X S) → Type 0
  CompletesFrom None = ⊥
  CompletesFrom (Some c) = Completes c.symbols c.state c.tokens

  completes : (s : List (Symbol W B)) (v : S) (ts : List X) (o : Option (Config W B X S)) → ((w : S) → Advanced g t [] w [] s v ts o) → CompletesFrom o → Completes s v ts
  completes s v ts None h r = absurd r
  completes s v ts (Some c) h r = record { built = r.built; holds = r.holds; derives = h r.built r.derives }

  -- k steps by computation, before a text that is proved to continue in this way
  pub went : (k : ℕ) {s : List (Symbol W B)} {v : S} {ts : List X} → CompletesFrom (advance g t k s v ts) → Completes s v ts
  went k {s} {v} {ts} r = completes s v ts (advance g t k s v ts) (λ w. advanced g t [] w [] k s v ts) r
