-- A reader whose last step is another reader, and one of a part that may be absent.
use Rattle.std.proofs.Common.{ℕ, ◌≡◌, ◌+◌, ◌≤◌, List, [], ◌∷◌, ◌++◌, length, drop, sym, subst, arith, Result, Ok, Err, MatchResult, Option, Some, None, MatchOption}
use Rattle.std.proofs.lemmas.Result.{MatchResult-weaker}
use Rattle.kp_grammar.specs.{Grammar.Nonterminal, Grammar.Action, Machine.Outcome, Machine.make}
use Rattle.kp_parse_grammar.specs.{declared.fault.Fault.Fault, Tokens.Lexeme}
use Rattle.kp_parse_grammar.specs.Language.{Sym, State, Step, Value, at, build_step}
use Rattle.kp_parse_grammar.specs.{Reading.Goes, Reading.Turns, Reading.Ends, inner.Stretch.TurnsAll, inner.Stretch.EndsAll}
use Rattle.kp_parse_grammar.proofs.Steps.{passed}

module _ {T : Type 0} (ts : List Lexeme) (xs : List Sym) (i j least : ℕ) (v : T → Value) where
  abbrev pub Part : Result (T × ℕ) Fault → Type 0
  Part r = MatchResult r (λ x. TurnsAll ts xs (v x.0 ∷ []) j x.1 least) (EndsAll ts xs j)

  -- reading these symbols from token i on is reading those from token j on
  pub tailed : (ys : List Sym) (r : Result (T × ℕ) Fault) → Part r → length (drop j ts) ≤ length (drop i ts)
      → ((s : List Sym) (cs : List ℕ) (vs : List Value) (o : Outcome State) → Goes (xs ++ s) (at cs vs) (drop j ts) o → Goes (ys ++ s) (at cs vs) (drop i ts) o)
      → MatchResult r (λ x. TurnsAll ts ys (v x.0 ∷ []) i x.1 least) (EndsAll ts ys i)
  tailed ys r h l path = MatchResult-weaker r h
      (λ x k. record { leads = λ s cs vs o g. path s cs vs o (k.leads s cs vs o g); shrinks = let m = k.shrinks in omega (arith, m, l) })
      (λ e f. passed f (λ o k s cs vs. path s cs vs o (k s cs vs)))

  -- an action makes a present part of the part
  pub optional : {n : ℕ} (a : Step) (w : Option T → Value) (part : Result (T × ℕ) Fault) (r : Result (Option T × ℕ) Fault) → Part part
      → MatchResult r (λ x. MatchOption x.0 ⊥ (λ t. part ≡ Ok (t, x.1))) (λ e. part ≡ Err e) → ((t : T) (cs : List ℕ) (vs : List Value) → build_step a (at cs (v t ∷ vs)) ≡ at cs (w (Some t) ∷ vs))
      → length (drop j ts) ≤ length (drop i ts)
      → ((s : List Sym) (cs : List ℕ) (vs : List Value) (o : Outcome State) → Goes (xs ++ Action a ∷ s) (at cs vs) (drop j ts) o → Goes (Nonterminal n ∷ s) (at cs vs) (drop i ts) o)
      → MatchResult r (λ x. Turns ts (Nonterminal n) [] (w x.0 ∷ []) i x.1 0) (Ends ts (Nonterminal n) [] i)
  optional a w part (Ok (None, k)) h is built l path = absurd is
  optional a w part (Ok (Some t, k)) h is built l path =
      let read : TurnsAll ts xs (v t ∷ []) j k least = subst Part is h in
      record {
        leads = λ s cs vs o g. path s cs vs o (read.leads (Action a ∷ s) cs vs o (make (subst (λ (u : State). Goes s u (drop k ts) o) (sym (built t cs vs)) g)));
        shrinks = let m = read.shrinks in omega (arith, m, l);
      }
  optional a w part (Err e) h is built l path =
      let fails : EndsAll ts xs j e = subst Part is h in passed fails (λ o k s cs vs. path s cs vs o (k (Action a ∷ s) cs vs))

-- one symbol as a part
pub alone : {T : Type 0} (ts : List Lexeme) (x : Sym) (i least : ℕ) (v : T → Value) (r : Result (T × ℕ) Fault)
    → MatchResult r (λ y. Turns ts x [] (v y.0 ∷ []) i y.1 least) (Ends ts x [] i) → MatchResult r (λ y. TurnsAll ts (x ∷ []) (v y.0 ∷ []) i y.1 least) (EndsAll ts (x ∷ []) i)
alone ts x i least v r h = MatchResult-weaker r h (λ y k. record { leads = k.leads; shrinks = k.shrinks }) (λ e f. f)
