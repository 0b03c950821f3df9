-- Steps of the machine, in the form that the readers use.
use Rattle.std.proofs.Common.{ℕ, ◌≡◌, ◌≤◌, ◌+◌, List, [], ◌∷◌, ◌++◌, length, drop, sym, subst, arith, Result, Ok, Err, IsErrAnd, MatchResult}
use Rattle.std.proofs.lemmas.Result.{err_from_is_err_and}
use Rattle.kp_grammar.specs.Machine.{Outcome, Accepts, Stops, accept, more}
use Rattle.kp_vlog.specs.{Tokens.Token, Language.Sym, Language.Value}
use Rattle.kp_vread_parse.specs.declared.fault.Fault.{Fault}
use Rattle.kp_vread_parse.specs.inner.Reading.{Goes, FaultIs, Faults, Turns, Ends}
use Rattle.kp_vread_parse.specs.declared.fault.Fault.TheVariants as faults

-- A fault of a part is one of the text that contains it, if the machine reaches the part.
pub mapped : {ts : List Token} {P : Outcome (List Value) → Type 0} (Q : Outcome (List Value) → Type 0) {e : Fault} → Faults ts P e
    → ((o : Outcome (List Value)) → P o → Q o) → FaultIs ts Q e
mapped {ts} Q {e = faults.NoMemory} h f = tt
mapped {ts} Q {e = faults.Wrong i} h f = f (Stops (length (drop i ts))) h.ends

pub passed : {ts : List Token} {P Q : Outcome (List Value) → Type 0} {e : Fault} → Faults ts P e → ((o : Outcome (List Value)) → P o → Q o) → Faults ts Q e
passed {Q = Q} m f = record { ends = mapped Q m f }

-- what the exit of a `?` returns
module _ {T : Type 0} {ts : List Token} {e : Fault} (R : T → Type 0) (Q : Outcome (List Value) → Type 0) (r : Result T Fault) where
  pub exits : {P : Outcome (List Value) → Type 0} → IsErrAnd r (λ y. y ≡ e) → Faults ts P e → ((o : Outcome (List Value)) → P o → Q o) → MatchResult r R (Faults ts Q)
  exits h m f = let p = err_from_is_err_and r h in rw (p.1, p.2) (passed m f)

-- what a call returns that reads the rest
pub follows : {T : Type 0} (ts : List Token) (xs ys : List Sym) (a b : List Value) (i j m n : ℕ) (c : T → List Value) (k : T → ℕ) (r : Result T Fault)
    → ((s : List Sym) (vs : List Value) (o : Outcome (List Value)) → Goes (ys ++ s) (b ++ vs) (drop j ts) o → Goes (xs ++ s) (a ++ vs) (drop i ts) o)
    → length (drop j ts) + m ≤ length (drop i ts) + n → MatchResult r (λ x. Turns ts ys b (c x) j (k x) n) (Ends ts ys b j)
    → MatchResult r (λ x. Turns ts xs a (c x) i (k x) m) (Ends ts xs a i)
follows ts xs ys a b i j m n c k (Ok x) f l h = record { leads = λ s vs o g. f s vs o (h.leads s vs o g); shrinks = let q = h.shrinks in omega (arith, l, q) }
follows ts xs ys a b i j m n c k (Err e) f l h = passed h (λ o g s vs. f s vs o (g s vs))

-- an equal value is on top
pub on_top : {X : Type 0} (f : X → Value) {x y : X} {s : List Sym} {vs : List Value} {ts : List Token} {o : Outcome (List Value)} → x ≡ y → Goes s (f x ∷ vs) ts o → Goes s (f y ∷ vs) ts o
on_top {X} f {s = s} {vs = vs} {ts = ts} {o = o} e h = subst (λ (z : X). Goes s (f z ∷ vs) ts o) e h

-- the end of the text, and a token in its place
pub accepted : (ts : List Token) (i : ℕ) {vs : List Value} → drop i ts ≡ [] → Goes [] vs (drop i ts) (Accepts vs)
accepted ts i {vs} h = subst (λ (xs : List Token). Goes [] vs xs (Accepts vs)) (sym h) accept

pub stopped : (ts : List Token) (i : ℕ) (t : Token) (rest : List Token) → drop i ts ≡ t ∷ rest → (vs : List Value) → Goes [] vs (drop i ts) (Stops (length (drop i ts)))
stopped ts i t rest h vs = subst (λ (xs : List Token). Goes [] vs xs (Stops (length xs))) (sym h) more
