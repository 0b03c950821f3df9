-- Texts that are written in order.
use Rattle.std.proofs.Common.{◌≡◌, ◌∙◌, ℕ, ◌+◌, ◌≤◌, ◌<◌, Bool, true, false, List, [], ◌∷◌, ◌++◌, length, get_or, take, refl, sym, subst, append_assoc, append-nil, arith, Ok, Err}
use Rattle.std.proofs.{lemmas.List.take_all, lemmas.List.take_more, lemmas.Grind.flat_map-append, KnownBytes.Appends-nil, KnownBytes.Appends-trans}
use Rattle.std.specs.{Prelude.flat_map, Prelude.is_err, declared.option.Option.Option, declared.result.Result.Result}
use Rattle.kp_base.{specs.Bytes.AppendsPart, specs.Bytes.Writes, specs.Causes.HasCause, specs.Causes.Rose, proofs.Bytes.part_more, proofs.Bytes.writes_next}
use Rattle.kp_diagram_text.specs.{Writing.Wrote, inner.Writing.WroteUpTo}

-- one piece
pub wrote_piece : {T E : Type 0} (a b : Option (List ℕ)) (n m : ℕ) (text : List ℕ) (result : Result T E) → Writes a b text result → HasCause n m result → Wrote a n false b m (is_err result) text
wrote_piece a b n m text (Ok value) written cause = record { is = (written, cause.later) }
wrote_piece a b n m text (Err error) written cause = record { is = (written, (cause.later, cause.failed)) }

pub wrote_none : (a : Option (List ℕ)) (n : ℕ) (p : Bool) → Wrote a n p a n p []
wrote_none a n true = record { is = (refl, refl) }
wrote_none a n false = record { is = (Appends-nil a, omega arith) }

pub wrote_next : (a b c : Option (List ℕ)) (n m k : ℕ) (p q r : Bool) (t u : List ℕ) → Wrote a n p b m q t → Wrote b m q c k r u → Wrote a n p c k r (t ++ u)
wrote_next a b c n m k true true true t u x y = record { is = (y.is.0 ∙ x.is.0, y.is.1 ∙ x.is.1) }
wrote_next a b c n m k true true false t u x y = absurd y.is
wrote_next a b c n m k true false r t u x y = absurd x.is
wrote_next a b c n m k false true true t u x y =
    record { is = (subst (λ (new : Option (List ℕ)). AppendsPart a new (t ++ u)) (sym y.is.0) (part_more a b t u x.is.0), subst (λ (j : ℕ). (n ≤ j) × Rose n j) (sym y.is.1) x.is.1) }
wrote_next a b c n m k false true false t u x y = absurd y.is
wrote_next a b c n m k false false true t u x y = record { is = (writes_next {T = ℕ} {E = ℕ} a b c t u (Err 0) x.is.0 y.is.0, (omega (arith, x.is.1, y.is.1.0), omega (arith, x.is.1, y.is.1.1))) }
wrote_next a b c n m k false false false t u x y = record { is = (Appends-trans a b c t u x.is.0 y.is.0, omega (arith, x.is.1, y.is.1)) }

-- the same text, as another term
pub wrote_as : (a : Option (List ℕ)) (n : ℕ) (p : Bool) (b : Option (List ℕ)) (m : ℕ) (q : Bool) (text same : List ℕ) → text ≡ same → Wrote a n p b m q text → Wrote a n p b m q same
wrote_as a n p b m q text same e h = subst (λ (t : List ℕ). Wrote a n p b m q t) e h

-- after a fault nothing is written
pub wrote_failed : (a : Option (List ℕ)) (n : ℕ) (p : Bool) (text : List ℕ) → p ≡ true → Wrote a n p a n p text
wrote_failed a n true text e = record { is = (refl, refl) }
wrote_failed a n false text e = cc

-- what the call returns in the end
pub ended_text : {T E : Type 0} (a b : Option (List ℕ)) (n m : ℕ) (p q : Bool) (text : List ℕ) (result : Result T E) → p ≡ false → Wrote a n p b m q text → is_err result ≡ q → Writes a b text result
ended_text a b n m true q text result p x is = cc
ended_text a b n m false true text (Ok value) p x is = cc
ended_text a b n m false true text (Err error) p x is = x.is.0
ended_text a b n m false false text (Ok value) p x is = x.is.0
ended_text a b n m false false text (Err error) p x is = cc

pub ended_cause : {T E : Type 0} (a b : Option (List ℕ)) (n m : ℕ) (p q : Bool) (text : List ℕ) (result : Result T E) → p ≡ false → Wrote a n p b m q text → is_err result ≡ q → HasCause n m result
ended_cause a b n m true q text result p x is = cc
ended_cause a b n m false true text (Ok value) p x is = cc
ended_cause a b n m false true text (Err error) p x is = record { later = x.is.1.0; failed = x.is.1.1 }
ended_cause a b n m false false text (Ok value) p x is = record { later = x.is.1; failed = tt }
ended_cause a b n m false false text (Err error) p x is = cc

-- The texts of the items of a list, up to one of them.
pub each_more : {X : Type 0} (f : X → List ℕ) (xs : List X) (i : ℕ) (x : X) (a b c : Option (List ℕ)) (n m k : ℕ) (p q r : Bool) → i < length xs → x ≡ get_or xs i x
    → Wrote a n p b m q (flat_map f (take i xs)) → Wrote b m q c k r (f x) → Wrote a n p c k r (flat_map f (take (i + 1) xs))
each_more f xs i x a b c n m k p q r h is before now =
    rw (take_more xs i x h, ← is, flat_map-append f (take i xs) (x ∷ []), append-nil (f x)) (wrote_next a b c n m k p q r _ _ before now)

pub each_all : {X : Type 0} (f : X → List ℕ) (xs : List X) (i : ℕ) (a b : Option (List ℕ)) (n m : ℕ) (p q : Bool) → length xs ≤ i
    → Wrote a n p b m q (flat_map f (take i xs)) → Wrote a n p b m q (flat_map f xs)
each_all f xs i a b n m p q h written = rw (take_all i xs h) at written

-- A text that is written up to a rest.
pub up_none : (whole : List ℕ) (a : Option (List ℕ)) (n : ℕ) (p : Bool) → WroteUpTo whole whole a n p a n p
up_none whole a n p = record { done = []; split = refl; wrote = wrote_none a n p }

pub up_next : (whole rest piece more : List ℕ) (a b c : Option (List ℕ)) (n m k : ℕ) (p q r : Bool) → rest ≡ piece ++ more → WroteUpTo whole rest a n p b m q
    → Wrote b m q c k r piece → WroteUpTo whole more a n p c k r
up_next whole rest piece more a b c n m k p q r e so_far now = record {
  done = so_far.done ++ piece;
  split = so_far.split ∙ subst (λ (t : List ℕ). so_far.done ++ rest ≡ so_far.done ++ t) e refl ∙ sym (append_assoc so_far.done piece more);
  wrote = wrote_next a b c n m k p q r so_far.done piece so_far.wrote now;
}

-- and then the rest
pub up_rest : (whole rest last : List ℕ) (a b c : Option (List ℕ)) (n m k : ℕ) (p q r : Bool) → rest ≡ last → WroteUpTo whole rest a n p b m q → Wrote b m q c k r last → Wrote a n p c k r whole
up_rest whole rest last a b c n m k p q r e so_far now =
    let all : whole ≡ so_far.done ++ last = so_far.split ∙ subst (λ (t : List ℕ). so_far.done ++ rest ≡ so_far.done ++ t) e refl in
    subst (λ (t : List ℕ). Wrote a n p c k r t) (sym all) (wrote_next a b c n m k p q r so_far.done last so_far.wrote now)

pub up_end : (whole rest : List ℕ) (a b : Option (List ℕ)) (n m : ℕ) (p q : Bool) → rest ≡ [] → WroteUpTo whole rest a n p b m q → Wrote a n p b m q whole
up_end whole rest a b n m p q e so_far = up_rest whole rest [] a b b n m m p q q e so_far (wrote_none b m q)
