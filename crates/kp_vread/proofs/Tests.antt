-- Tests and what they decide.
use Rattle.std.proofs.Common.{◌≡◌, ℕ, zero, suc, ◌<◌, List, [], ◌∷◌, Option, Some, None, length, get_or, Bool, true, false, cond, not, ◌&&◌, ◌||◌, refl, sym, arith}
use Rattle.std.specs.Prelude.{is_some}
use Rattle.kp_base.specs.First.{first}
use Rattle.std.{proofs.lemmas.Bool.false≢true, specs.Bool.Decides}

pub holds : (b : Bool) → Decides b (b ≡ true)
holds b = (λ e. e, λ e. e)

pub fails : (b : Bool) → Decides (not b) (b ≡ false)
fails true = (λ e. absurd (false≢true e), λ e. absurd (false≢true (sym e)))
fails false = (λ e. refl, λ e. refl)

pub both : {P Q : Type 0} (a b : Bool) → Decides a P → Decides b Q → Decides (a && b) (P × Q)
both true b d e = (λ y. (d.0 refl, e.0 y), λ h. e.1 h.1)
both false b d e = (λ y. absurd (false≢true y), λ h. absurd (false≢true (d.1 h.0)))

pub implied : {P Q : Type 0} (a b : Bool) → Decides a P → Decides b Q → Decides (not a || b) (P → Q)
implied true b d e = (λ y p. e.0 y, λ h. e.1 (h (d.0 refl)))
implied false b d e = (λ y p. absurd (false≢true (d.1 p)), λ h. refl)

pub either_way : {P Q : Type 0} (a x y : Bool) → Decides x P → Decides y Q → Decides (cond a x y) ((a ≡ true → P) × (a ≡ false → Q))
either_way true x y d e = (λ z. (λ _. d.0 z, λ w. absurd (false≢true (sym w))), λ h. d.1 (h.0 refl))
either_way false x y d e = (λ z. (λ w. absurd (false≢true w), λ _. e.0 z), λ h. e.1 (h.1 refl))

pub as_well : {P Q : Type 0} (a : Bool) → (P → Q) → (Q → P) → Decides a P → Decides a Q
as_well a f g d = (λ y. f (d.0 y), λ q. d.1 (g q))

-- a test of the first entry and of those after it
pub each : (a b : Bool) (k : ℕ) (Q : ℕ → Type 0) → Decides a (Q 0) → Decides b ((t : ℕ) → t < k → Q (suc t)) → Decides (a && b) ((t : ℕ) → t < suc k → Q t)
each a b k Q d e = as_well (a && b) (λ h. go h.0 h.1) (λ h. (h 0 (omega arith), λ t l. h (suc t) (omega (arith, l)))) (both a b d e)
  where
    go : Q 0 → ((t : ℕ) → t < k → Q (suc t)) → (t : ℕ) → t < suc k → Q t
    go x y zero l = x
    go x y (suc t) l = y t (omega (arith, l))

pub some : (a b : Bool) (k : ℕ) (Q : ℕ → Type 0) → Decides a (Q 0) → Decides b ((t : ℕ) × (t < k) × Q (suc t)) → Decides (a || b) ((t : ℕ) × (t < suc k) × Q t)
some true b k Q d e = (λ y. (0, omega arith, d.0 refl), λ h. refl)
some false b k Q d e = (λ y. let h = e.0 y in (suc h.0, (let l = h.1 in omega (arith, l)), h.2), λ h. e.1 (go h.0 h.1 h.2))
  where
    go : (t : ℕ) → t < suc k → Q t → (t : ℕ) × (t < k) × Q (suc t)
    go zero l q = absurd (false≢true (d.1 q))
    go (suc t) l q = (t, omega (arith, l), q)

-- a test of the first entry that has a name
pub named : {X : Type 0} (b here there : Bool) (k : ℕ) (x : X) (xs : List X) (d : X) (P : X → Type 0) → Decides here (P x)
    → Decides there ((k < length xs) × P (get_or xs k d))
    → Decides (cond b here there) ((cond b 0 (suc k) < length (x ∷ xs)) × P (get_or (x ∷ xs) (cond b 0 (suc k)) d))
named true here there k x xs d P e f = (λ y. (omega arith, e.0 y), λ h. e.1 h.1)
named false here there k x xs d P e f = (λ y. let h = f.0 y in ((let l = h.0 in omega (arith, l)), h.1), λ h. f.1 ((let l = h.0 in omega (arith, l)), h.1))

-- what is true and true
pub and_true : (a b : Bool) → a && b ≡ (a && true) && b
and_true true b = refl
and_true false b = refl

pub both_true : (a b : Bool) → (a ≡ true) × (b ≡ true) → a && b ≡ true
both_true true b h = h.1
both_true false b h = h.0

pub true_both : (a b : Bool) → a && b ≡ true → (a ≡ true) × (b ≡ true)
true_both true b e = (refl, e)
true_both false b e = (e, absurd (false≢true e))

pub alone : {P : Type 0} (a : Bool) → Decides a P → Decides (a && true) P
alone true d = d
alone false d = d

-- a difference where a test fails
pub tested : {X P : Type 0} (a : Bool) (o : Option X) (x : X) → Decides (a && not (is_some o)) P → Decides (not (is_some (cond a o (Some x)))) P
tested true o x d = d
tested false o x d = d

-- no first difference
pub none_first : {X P Q : Type 0} (o : Option X) (os : List (Option X)) → Decides (not (is_some o)) P → Decides (not (is_some (first os))) Q → Decides (not (is_some (first (o ∷ os)))) (P × Q)
none_first None os d e = both true (not (is_some (first os))) d e
none_first (Some x) os d e = both false (not (is_some (first os))) d e

pub none_last : {X P : Type 0} (o : Option X) → Decides (not (is_some o)) P → Decides (not (is_some (first (o ∷ [])))) P
none_last None d = d
none_last (Some x) d = d
