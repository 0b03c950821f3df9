-- The machine whose steps are determined by the next token. The laws of `grammar` relate it to derivations; it
-- occurs in a reader's private contracts, but not in its public ones.
use Rattle.std.specs.Prelude.{ℕ, zero, suc, ◌≡◌, ◌==◌, List, [], ◌∷◌, ◌++◌, length, Bool, true, false, cond, Option, Some, None}
use Rattle.kp_grammar.specs.Grammar.{Symbol, Terminal, Nonterminal, Action, Grammar}
use Rattle.kp_grammar.specs.Tables.{Tables, END_OF_TEXT, pick}

-- the outcome of the machine: the text is accepted, it is wrong at the first of the last k tokens, or that token
-- exceeds the limit
pub data Outcome (S : Type 0) : Type 0 where
  Accepts : S → Outcome S
  Stops : ℕ → Outcome S
  Exceeds : ℕ → Outcome S

-- the class of the next token
abbrev pub look : {W B X S : Type 0} → Grammar W B X S → List X → ℕ
look g [] = END_OF_TEXT
look g (t ∷ ts) = g.class t

-- The symbols to be read, the state and the tokens lead to the outcome.
pub data Leads {W B X S : Type 0} (g : Grammar W B X S) (over : S → Bool) (t : Tables) : List (Symbol W B) → S → List X → Outcome S → Type 0 where
  accept : {v : S} → Leads g over t [] v [] (Accepts v)
  more : {v : S} {x : X} {xs : List X} → Leads g over t [] v (x ∷ xs) (Stops (length (x ∷ xs)))
  goes : {n : ℕ} {s : List (Symbol W B)} {v : S} {xs : List X} {o : Outcome S} (body : List (Symbol W B))
      → pick g.rules t n (look g xs) ≡ Some body → Leads g over t (body ++ s) v xs o → Leads g over t (Nonterminal n ∷ s) v xs o
  take : {c : ℕ} {way : W} {s : List (Symbol W B)} {v : S} {x : X} {xs : List X} {o : Outcome S}
      → g.class x ≡ c → over (g.reads way x v) ≡ false → Leads g over t s (g.reads way x v) xs o → Leads g over t (Terminal c way ∷ s) v (x ∷ xs) o
  make : {a : B} {s : List (Symbol W B)} {v : S} {xs : List X} {o : Outcome S}
      → Leads g over t s (g.builds a v) xs o → Leads g over t (Action a ∷ s) v xs o
  wrong : {c : ℕ} {way : W} {s : List (Symbol W B)} {v : S} {xs : List X}
      → (look g xs ≡ c → ⊥) → Leads g over t (Terminal c way ∷ s) v xs (Stops (length xs))
  lost : {n : ℕ} {s : List (Symbol W B)} {v : S} {xs : List X}
      → pick g.rules t n (look g xs) ≡ None → Leads g over t (Nonterminal n ∷ s) v xs (Stops (length xs))
  exceed : {c : ℕ} {way : W} {s : List (Symbol W B)} {v : S} {x : X} {xs : List X}
      → g.class x ≡ c → over (g.reads way x v) ≡ true → Leads g over t (Terminal c way ∷ s) v (x ∷ xs) (Exceeds (length (x ∷ xs)))

-- a configuration of the machine: symbols to be read, what has been built, the remaining tokens
pub record Config (W B X S : Type 0) : Type 0 where
  pub symbols : List (Symbol W B)
  pub state : S
  pub tokens : List X

abbrev pub goes_on : {W B X S : Type 0} → Option (List (Symbol W B)) → (List (Symbol W B) → Option (Config W B X S)) → Option (Config W B X S)
goes_on None go = None
goes_on (Some b) go = go b

-- k steps of the machine, by computation, without checking the limit
abbrev pub advance : {W B X S : Type 0} → Grammar W B X S → Tables → ℕ → List (Symbol W B) → S → List X → Option (Config W B X S)
advance g t zero s v ts = Some (record { symbols = s; state = v; tokens = ts })
advance g t (suc k) [] v ts = None
advance g t (suc k) (Terminal c way ∷ s) v [] = None
advance g t (suc k) (Terminal c way ∷ s) v (x ∷ xs) = cond (g.class x == c) (advance g t k s (g.reads way x v) xs) None
advance g t (suc k) (Nonterminal n ∷ s) v ts = goes_on (pick g.rules t n (look g ts)) (λ b. advance g t k (b ++ s) v ts)
advance g t (suc k) (Action a ∷ s) v ts = advance g t k s (g.builds a v) ts
