-- The laws, of derivations alone and of what the machine's outcome says.
use Rattle.std.proofs.Common.{ℕ, suc, ◌≡◌, ◌<◌, ◌≤◌, List, [], ◌∷◌, length, Bool, true, false, Some, refl, sym, subst, arith, inl, inr}
use Rattle.std.proofs.lemmas.Bool.{cases_lt, eqb-true}
use Rattle.kp_grammar.specs.Grammar.{Symbol, Nonterminal, Grammar, Derives, IsSentence, IsWrongAt, IsLimit, IsWithin, IsOverAt}
use Rattle.kp_grammar.specs.Tables.{Tables, among, after_of, IsPredictive}
use Rattle.kp_grammar.specs.Machine.{Accepts, Stops, Exceeds, Leads, Config, advance}
use Rattle.kp_grammar.proofs.Conditions.{Decides}
use Rattle.kp_grammar.proofs.Exact.{IsGood, unique, accepted, complete, reached, reached_excess, unreached, within_before, over_all}
use Rattle.kp_grammar.proofs.{TableTests.picks_rule, TableTests.decides, Steps.Advanced, Steps.advanced}

-- No limit is one that is never passed.
pub no_limit : {W B X S : Type 0} (g : Grammar W B X S) → IsLimit g (λ (v : S). false)
no_limit g = record { keeps = λ a v. refl; stays = λ way t v h. h }

module _ {W B X S : Type 0} (g : Grammar W B X S) (t : Tables) (n : ℕ) (p : IsPredictive g t n) where
  table : Decides g.rules t
  table = decides g.rules t p.fits

  good : IsGood {W = W} {B = B} t (Nonterminal n ∷ [])
  good = ((λ c h. subst (λ (d : ℕ). among d (after_of t n) ≡ true) (sym (eqb-true c 0 h)) p.ends), tt)

  -- A sentence builds one state.
  pub one_state : {v w w' : S} {ts : List X} → IsSentence g n v ts w → IsSentence g n v ts w' → w ≡ w'
  one_state d d' = unique g t table d good d'

  -- The position where the machine stops is that of the first wrong token.
  pub wrong_at : {over : S → Bool} {v : S} {ts : List X} {k : ℕ} → Leads g over t (Nonterminal n ∷ []) v ts (Stops k) → IsWrongAt g n v ts k
  wrong_at {over = over} {k = k} l = record {
    viable = (let r = reached g t table over (picks_rule g.rules t) l in (r.2, r.3, (r.0, r.1, r.4)));
    longest = λ left b. elim (cases_lt (length left) k) [
      | inl h ↦ absurd (unreached g t table over l good b.2 (inl h))
      | inr h ↦ h
    ];
    unfinished = λ w d. unreached g t table over l good d (inr (refl, refl));
  }

  module _ (over : S → Bool) (limit : IsLimit g over) where
    -- A sentence that keeps to the limit is accepted.
    pub is_accepted : {v w : S} {ts : List X} → IsSentence g n v ts w → over w ≡ false → Leads g over t (Nonterminal n ∷ []) v ts (Accepts w)
    is_accepted d z = complete g t table over limit.keeps limit.stays d good z

    -- Before the position where the machine stops nothing exceeds the limit.
    pub within_stop : {v : S} {ts : List X} {k : ℕ} → over v ≡ false → Leads g over t (Nonterminal n ∷ []) v ts (Stops k) → IsWithin g over n v ts k
    within_stop z l s w left d h = within_before g t table over limit.keeps l good z d h

    -- In what it accepts nothing does.
    pub within_all : {v w : S} {ts : List X} → over v ≡ false → Leads g over t (Nonterminal n ∷ []) v ts (Accepts w) → IsWithin g over n v ts 0
    within_all z l s w left d h = within_before g t table over limit.keeps l good z d h

    -- Where it finds the limit exceeded is the first token that exceeds it.
    pub over_at : {v : S} {ts : List X} {k : ℕ} → over v ≡ false → Leads g over t (Nonterminal n ∷ []) v ts (Exceeds k) → IsOverAt g over n v ts k
    over_at z l = record {
      passes = reached_excess g t table over (picks_rule g.rules t) l;
      first = λ s w left d h. within_before g t table over limit.keeps l good z d h;
    }

    -- Then each sentence passes the limit.
    pub over_ends : {v w : S} {ts : List X} {k : ℕ} → IsOverAt g over n v ts k → IsSentence g n v ts w → over w ≡ true
    over_ends o d = let q = o.passes in over_all g t table over limit.keeps limit.stays q.5 q.4 good d

-- What is accepted is a sentence.
pub sentence : {W B X S : Type 0} (g : Grammar W B X S) (t : Tables) (n : ℕ) → IsPredictive g t n → {over : S → Bool} {v w : S} {ts : List X}
    → Leads g over t (Nonterminal n ∷ []) v ts (Accepts w) → IsSentence g n v ts w
sentence g t n p {over} l = accepted g t (decides g.rules t p.fits) over (picks_rule g.rules t) l

-- A text has one first wrong token,
pub one_wrong : {W B X S : Type 0} (g : Grammar W B X S) (n : ℕ) {v : S} {ts : List X} {k k' : ℕ} → IsWrongAt g n v ts k → IsWrongAt g n v ts k' → k ≡ k'
one_wrong g n {k = k} {k' = k'} a b =
    let x = a.viable in let y = b.viable in
    let low : k ≤ length y.0 = a.longest y.0 y.2 in
    let high : k' ≤ length x.0 = b.longest x.0 x.2 in
    let at : length x.0 ≡ k = x.1 in let at' : length y.0 ≡ k' = y.1 in
    omega arith

not_both : (b : Bool) → b ≡ true → b ≡ false → ⊥
not_both b h k = cc

-- one first token that passes the limit,
pub one_over : {W B X S : Type 0} (g : Grammar W B X S) (over : S → Bool) (n : ℕ) {v : S} {ts : List X} {k k' : ℕ} → IsOverAt g over n v ts k → IsOverAt g over n v ts k' → k ≡ k'
one_over g over n {k = k} {k' = k'} a b =
    let x = a.passes in let y = b.passes in
    let above : length x.2 < k' = elim (cases_lt (length x.2) k') [ inl h ↦ h | inr h ↦ absurd (not_both (over x.1) x.4 (b.first x.0 x.1 x.2 x.5 h)) ] in
    let above' : length y.2 < k = elim (cases_lt (length y.2) k) [ inl h ↦ h | inr h ↦ absurd (not_both (over y.1) y.4 (a.first y.0 y.1 y.2 y.5 h)) ] in
    let at : suc (length x.2) ≡ k = x.3 in let at' : suc (length y.2) ≡ k' = y.3 in
    omega arith

-- and never both with the wrong one first.
pub not_over : {W B X S : Type 0} (g : Grammar W B X S) (over : S → Bool) (n : ℕ) {v : S} {ts : List X} {k k' : ℕ}
    → IsOverAt g over n v ts k → IsWrongAt g n v ts k' → IsWithin g over n v ts k' → ⊥
not_over g over n {k' = k'} o h within =
    let x = o.passes in
    let low : k' ≤ length x.2 = h.longest x.2 (x.0, x.1, x.5) in
    not_both (over x.1) x.4 (within x.0 x.1 x.2 x.5 low)

-- What is derived from the end of computed steps is derived from their start.
pub computed : {W B X S : Type 0} (g : Grammar W B X S) (t : Tables) (k : ℕ) {s : List (Symbol W B)} {v : S} {ts : List X} {c : Config W B X S} {s' : List (Symbol W B)} {v' : S} {left : List X}
    → advance g t k s v ts ≡ Some c → Derives g c.symbols c.state c.tokens s' v' left → Derives g s v ts s' v' left
computed g t k {s} {v} {ts} {c} {s'} {v'} {left} e =
    subst (λ o. Advanced g t s' v' left s v ts o) e (advanced g t s' v' left k s v ts)
