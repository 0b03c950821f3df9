-- The machine's ways, in the form in which a reader's proof takes them.
use Rattle.std.proofs.Common.{ℕ, ◌≡◌, List, ◌∷◌, ◌++◌, length, Bool, true, false, Some, sym, subst}
use Rattle.kp_grammar.specs.{Grammar.Symbol, Grammar.Terminal, Grammar.Nonterminal, Grammar.Grammar, Tables.Tables, Tables.pick}
use Rattle.kp_grammar.specs.Machine.{Outcome, Exceeds, Leads, look, goes, take, exceed}

module _ {W B X S : Type 0} (g : Grammar W B X S) (over : S → Bool) (t : Tables) {s : List (Symbol W B)} {v : S} {ts : List X} where
  -- At a token of this class the name becomes this body;
  pub on : {o : Outcome S} (c n : ℕ) (body : List (Symbol W B)) → c ≡ look g ts → pick g.rules t n c ≡ Some body → Leads g over t (body ++ s) v ts o → Leads g over t (Nonterminal n ∷ s) v ts o
  on c n body e p l = goes body (subst (λ (d : ℕ). pick g.rules t n d ≡ Some body) e p) l

  -- whatever the next token is it does.
  pub always : {o : Outcome S} (n : ℕ) (body : List (Symbol W B)) → ((c : ℕ) → pick g.rules t n c ≡ Some body) → Leads g over t (body ++ s) v ts o → Leads g over t (Nonterminal n ∷ s) v ts o
  always n body p l = goes body (p (look g ts)) l

  -- The first token is of the class, and is read within the limit;
  pub took : {o : Outcome S} {c : ℕ} {way : W} {x : X} {rest : List X} → ts ≡ x ∷ rest → g.class x ≡ c → over (g.reads way x v) ≡ false
      → Leads g over t s (g.reads way x v) rest o → Leads g over t (Terminal c way ∷ s) v ts o
  took {o} {c = c} {way = way} whole e z l = subst (λ (xs : List X). Leads g over t (Terminal c way ∷ s) v xs o) (sym whole) (take e z l)

  -- it passes the limit.
  pub exceeded : {c : ℕ} {way : W} {x : X} {rest : List X} → ts ≡ x ∷ rest → g.class x ≡ c → over (g.reads way x v) ≡ true
      → Leads g over t (Terminal c way ∷ s) v ts (Exceeds (length ts))
  exceeded {c = c} {way = way} whole e z = subst (λ (xs : List X). Leads g over t (Terminal c way ∷ s) v xs (Exceeds (length xs))) (sym whole) (exceed e z)
