-- Steps of the machine, in the form in which the readers take them.
use Rattle.std.proofs.Common.{ℕ, ◌≡◌, ◌<◌, ◌≤◌, ◌+◌, nat_lt, List, [], ◌∷◌, length, drop, Bool, false, refl, sym, ap, subst, arith, Result, IsErrAnd, MatchResult}
use Rattle.std.proofs.lemmas.{Bool.le-ltb, Result.err_from_is_err_and}
use Rattle.kp_base.specs.declared.place.Place.{Place}
use Rattle.kp_grammar.specs.Grammar.{Terminal, Action}
use Rattle.kp_grammar.specs.Machine.{Outcome, Accepts, Stops, Exceeds, accept, more, make}
use Rattle.kp_grammar.proofs.Ways.{took, exceeded}
use Rattle.kp_ast.specs.declared.tree.{Expr.Expr, Num.Num}
use Rattle.kp_lex.specs.declared.token.Keyword.{Keyword}
use Rattle.kp_parse_grammar.specs.Language.{Sym, State, Value, Way, place, expr, number, dropped, as_place, counts_one, opens, opens_at, closes, separates, language, at, is_over}
use Rattle.kp_parse_grammar.specs.{declared.fault.Fault.Fault, Tokens.Lexeme, Follow.tables, inner.Stretch.Counts}
use Rattle.kp_parse_grammar.specs.{inner.Extension.extension_of, inner.Extension.extending, Reading.Goes, Reading.Finds, Reading.FaultIs, Reading.Faults}
use Rattle.kp_lex.specs.declared.token.Keyword.TheVariants as keywords
use Rattle.kp_parse_grammar.specs.declared.fault.Fault.TheVariants as faults

fits : (c : ℕ) → c < 64 → nat_lt 64 (c + 1) ≡ false
fits c h = le-ltb 64 (c + 1) (omega arith)

-- A token is found, and read
module _ {ts : List Lexeme} {k i j : ℕ} {p : Place} {s : List Sym} {vs : List Value} {o : Outcome State} where
  pub by_dropped : {cs : List ℕ} → Finds ts k p i j → Goes s (at cs vs) (drop j ts) o → Goes (Terminal k dropped ∷ s) (at cs vs) (drop i ts) o
  by_dropped f h = took language is_over tables f.whole f.class refl h

  pub by_placed : {cs : List ℕ} → Finds ts k p i j → Goes s (at cs (place p ∷ vs)) (drop j ts) o → Goes (Terminal k as_place ∷ s) (at cs vs) (drop i ts) o
  by_placed {cs} f h = took language is_over tables f.whole f.class refl (subst (λ (q : Place). Goes s (at cs (place q ∷ vs)) (drop j ts) o) (sym f.place) h)

  pub by_closed : {c : ℕ} {cs : List ℕ} → Finds ts k p i j → Goes s (at cs vs) (drop j ts) o → Goes (Terminal k closes ∷ s) (at (c ∷ cs) vs) (drop i ts) o
  by_closed f h = took language is_over tables f.whole f.class refl h

  pub by_separated : {c d f : ℕ} {cs : List ℕ} → Finds ts k p i j → d ≡ c + 1 → Goes s (at (d ∷ c ∷ cs) vs) (drop j ts) o → Goes (Terminal k separates ∷ s) (at (f ∷ c ∷ cs) vs) (drop i ts) o
  by_separated {c} {cs = cs} f e h = took language is_over tables f.whole f.class refl (subst (λ (b : ℕ). Goes s (at (b ∷ c ∷ cs) vs) (drop j ts) o) e h)

  -- .. and counts one
  pub by_counted : {c d : ℕ} {cs : List ℕ} → Finds ts k p i j → (c < 64) × (d ≡ c + 1) → Goes s (at (d ∷ cs) (place p ∷ vs)) (drop j ts) o → Goes (Terminal k counts_one ∷ s) (at (c ∷ cs) vs) (drop i ts) o
  by_counted {c} {d} {cs} f l h =
      let a : Goes s (at ((c + 1) ∷ cs) (place f.token.place ∷ vs)) (drop j ts) o = subst (λ (q : Place). Goes s (at ((c + 1) ∷ cs) (place q ∷ vs)) (drop j ts) o) (sym f.place) (subst (λ (b : ℕ). Goes s (at (b ∷ cs) (place p ∷ vs)) (drop j ts) o) l.1 h) in
      took language is_over tables f.whole f.class (fits c l.0) (subst (λ (b : Bool). Goes s (record { counts = (c + 1) ∷ cs; over = b; values = place f.token.place ∷ vs }) (drop j ts) o) (sym (fits c l.0)) a)

  pub by_opened : {c d : ℕ} {cs : List ℕ} → Finds ts k p i j → (c < 64) × (d ≡ c + 1) → Goes s (at (d ∷ c ∷ cs) vs) (drop j ts) o → Goes (Terminal k opens ∷ s) (at (c ∷ cs) vs) (drop i ts) o
  by_opened {c} {d} {cs} f l h =
      let a : Goes s (at ((c + 1) ∷ c ∷ cs) vs) (drop j ts) o = subst (λ (b : ℕ). Goes s (at (b ∷ c ∷ cs) vs) (drop j ts) o) l.1 h in
      took language is_over tables f.whole f.class (fits c l.0) (subst (λ (b : Bool). Goes s (record { counts = (c + 1) ∷ c ∷ cs; over = b; values = vs }) (drop j ts) o) (sym (fits c l.0)) a)

  pub by_opened_at : {c d : ℕ} {cs : List ℕ} → Finds ts k p i j → (c < 64) × (d ≡ c + 1) → Goes s (at (d ∷ c ∷ cs) (place p ∷ vs)) (drop j ts) o → Goes (Terminal k opens_at ∷ s) (at (c ∷ cs) vs) (drop i ts) o
  by_opened_at {c} {d} {cs} f l h =
      let a : Goes s (at ((c + 1) ∷ c ∷ cs) (place f.token.place ∷ vs)) (drop j ts) o = subst (λ (q : Place). Goes s (at ((c + 1) ∷ c ∷ cs) (place q ∷ vs)) (drop j ts) o) (sym f.place) (subst (λ (b : ℕ). Goes s (at (b ∷ c ∷ cs) (place p ∷ vs)) (drop j ts) o) l.1 h) in
      took language is_over tables f.whole f.class (fits c l.0) (subst (λ (b : Bool). Goes s (record { counts = (c + 1) ∷ c ∷ cs; over = b; values = place f.token.place ∷ vs }) (drop j ts) o) (sym (fits c l.0)) a)

-- .. and passes the limit
module _ {ts : List Lexeme} {k i j : ℕ} {p : Place} {s : List Sym} {vs : List Value} {c : ℕ} {cs : List ℕ} where
  pub over_counted : Finds ts k p i j → c ≡ 64 → Goes (Terminal k counts_one ∷ s) (at (c ∷ cs) vs) (drop i ts) (Exceeds (length (drop i ts)))
  over_counted f e = subst (λ (d : ℕ). Goes (Terminal k counts_one ∷ s) (at (d ∷ cs) vs) (drop i ts) (Exceeds (length (drop i ts)))) (sym e) (exceeded language is_over tables f.whole f.class refl)

  pub over_opened : Finds ts k p i j → c ≡ 64 → Goes (Terminal k opens ∷ s) (at (c ∷ cs) vs) (drop i ts) (Exceeds (length (drop i ts)))
  over_opened f e = subst (λ (d : ℕ). Goes (Terminal k opens ∷ s) (at (d ∷ cs) vs) (drop i ts) (Exceeds (length (drop i ts)))) (sym e) (exceeded language is_over tables f.whole f.class refl)

  pub over_opened_at : Finds ts k p i j → c ≡ 64 → Goes (Terminal k opens_at ∷ s) (at (c ∷ cs) vs) (drop i ts) (Exceeds (length (drop i ts)))
  over_opened_at f e = subst (λ (d : ℕ). Goes (Terminal k opens_at ∷ s) (at (d ∷ cs) vs) (drop i ts) (Exceeds (length (drop i ts)))) (sym e) (exceeded language is_over tables f.whole f.class refl)

-- .. whichever of the ways that increment the count it is read in
pub over : {ts : List Lexeme} {k i j : ℕ} {p : Place} {c : ℕ} → Finds ts k p i j → c ≡ 64 → (way : Way) → Counts way → (s : List Sym) (cs : List ℕ) (vs : List Value)
    → Goes (Terminal k way ∷ s) (at (c ∷ cs) vs) (drop i ts) (Exceeds (length (drop i ts)))
over f e counts_one h s cs vs = over_counted f e
over f e opens h s cs vs = over_opened f e
over f e opens_at h s cs vs = over_opened_at f e
over f e _ h s cs vs = absurd h

pub one : {ts : List Lexeme} {k i j : ℕ} {p : Place} → Finds ts k p i j → length (drop j ts) + 1 ≤ length (drop i ts)
one f = let e = ap length f.whole in omega (arith, e)

-- A fault of a part is one of the text that contains it, if the machine reaches the part.
pub mapped : {ts : List Lexeme} {P : Outcome State → Type 0} (Q : Outcome State → Type 0) {e : Fault} → Faults ts P e → ((o : Outcome State) → P o → Q o) → FaultIs ts Q e
mapped {ts} Q {e = faults.NoMemory} h f = tt
mapped {ts} Q {e = faults.Wrong i} h f = f (Stops (length (drop i ts))) h.ends
mapped {ts} Q {e = faults.TooDeep i} h f = f (Exceeds (length (drop i ts))) h.ends

pub passed : {ts : List Lexeme} {P Q : Outcome State → Type 0} {e : Fault} → Faults ts P e → ((o : Outcome State) → P o → Q o) → Faults ts Q e
passed {Q = Q} m f = record { ends = mapped Q m f }

-- what the exit of a `?` returns
module _ {T : Type 0} {e : Fault} (R : T → Type 0) (Q : Outcome State → Type 0) (r : Result T Fault) where
  pub exits : {ts : List Lexeme} {P : Outcome State → Type 0} → IsErrAnd r (λ y. y ≡ e) → Faults ts P e → ((o : Outcome State) → P o → Q o) → MatchResult r R (Faults ts Q)
  exits h m f = let p = err_from_is_err_and r h in rw (p.1, p.2) (passed m f)

  -- .. where the limit is exceeded
  pub exceeds : (ts : List Lexeme) {k c : ℕ} → IsErrAnd r (λ y. y ≡ e) → (e ≡ faults.TooDeep k) × (c ≡ 64) → Q (Exceeds (length (drop k ts))) → MatchResult r R (Faults ts Q)
  exceeds ts h m q = let p = err_from_is_err_and r h in rw (p.1, p.2, m.0) (record { ends = q })

-- the end of the text, and a token where it should be
pub accepted : (ts : List Lexeme) (i : ℕ) {v : State} → drop i ts ≡ [] → Goes [] v (drop i ts) (Accepts v)
accepted ts i {v} h = subst (λ (xs : List Lexeme). Goes [] v xs (Accepts v)) (sym h) accept

pub stopped : (ts : List Lexeme) (i : ℕ) (t : Lexeme) (rest : List Lexeme) → drop i ts ≡ t ∷ rest → (v : State) → Goes [] v (drop i ts) (Stops (length (drop i ts)))
stopped ts i t rest h v = subst (λ (xs : List Lexeme). Goes [] v xs (Stops (length xs))) (sym h) more

-- what `zext` and `sext` build
pub extends : (k : Keyword) {s : List Sym} {cs : List ℕ} {vs : List Value} {p : Place} {x : Expr} {w : Num} {ts : List Lexeme} {o : Outcome State}
    → Goes s (at cs (expr (record { place = p; kind = extension_of k x w }) ∷ vs)) ts o → Goes (Action (extending k) ∷ s) (at cs (number w ∷ expr x ∷ place p ∷ vs)) ts o
extends keywords.Zext h = make h
extends _ h = make h
