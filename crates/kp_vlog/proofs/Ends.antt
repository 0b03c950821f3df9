-- A first module ends at one offset.
use Rattle.std.proofs.Common.{ℕ, zero, suc, Bool, true, false, ◌+◌, ◌≤◌, ◌<◌, ◌≡◌, ◌∙◌, List, length, length-drop, drop, refl, sym, ap, subst, arith, ◌⊎◌, inl, inr}
use Rattle.std.proofs.lemmas.Bool.{false≢true}
use Rattle.kp_vlog.specs.declared.{front.Front.Front as Reported, token.Keyword.Keyword}
use Rattle.kp_vlog.specs.Tokens.{Word, keyword, Front, front, finish, skips, takes, broken}
use Rattle.kp_vlog.{specs.Kinds.front_of, specs.Fronts.seen, specs.Fronts.Fits, proofs.Fronts.seen_front, proofs.Fronts.fits_front}
use Rattle.kp_vlog.specs.inner.Leads.{closes_module, is_endmodule}
use Rattle.kp_vlog.specs.Splitting.{FirstEnds, closes, over, faulty, past_gap, past_token}
use Rattle.kp_vlog.specs.declared.front.Front.TheVariants as reported

-- whether a token is the keyword
keyword_is : (k : Keyword) → closes_module k ≡ true → k ≡ Keyword.Endmodule
keyword_is Keyword.Endmodule e = refl
keyword_is k e = absurd (false≢true e)

pub endmodule_is : (w : Word) → is_endmodule w ≡ true → w ≡ keyword Keyword.Endmodule
endmodule_is (keyword k) e = ap (λ (j : Keyword). keyword j) (keyword_is k e)
endmodule_is w e = absurd (false≢true e)

pub endmodule_not : (w : Word) → is_endmodule w ≡ false → w ≡ keyword Keyword.Endmodule → ⊥
endmodule_not w e f = false≢true (sym e ∙ ap is_endmodule f)

-- the front is no longer than the text
abbrev pub IsWithin : ℕ → Front → Type 0
IsWithin len (skips n) = (0 < n) × (n ≤ len)
IsWithin len (takes w n) = (0 < n) × (n ≤ len)
IsWithin len x = Unit {0}

seen_within : (text : List ℕ) (t : Reported) → Fits (length text) t → IsWithin (length text) (seen text t)
seen_within text (reported.Skip n) h = h
seen_within text (reported.Token k n) h = h
seen_within text x h = tt

pub front_within : (text : List ℕ) → IsWithin (length text) (front text)
front_within text = subst (IsWithin (length text)) (seen_front text) (seen_within text (front_of text) (fits_front text))

-- the end, by the front of the text
abbrev Ended : ℕ → List ℕ → Front → ℕ → Type 0
Ended at text (skips n) to = FirstEnds (at + n) (drop n text) to
Ended at text (takes w n) to = ((w ≡ keyword Keyword.Endmodule) × (to ≡ at + n)) ⊎ ((w ≡ keyword Keyword.Endmodule → ⊥) × FirstEnds (at + n) (drop n text) to)
Ended at text _ to = to ≡ at + length text

ended : {at : ℕ} {text : List ℕ} {to : ℕ} → FirstEnds at text to → (f : Front) → front text ≡ f → Ended at text f to
ended {at = at} {text = text} (closes n e) f g = subst (λ (f : Front). Ended at text f (at + n)) (sym e ∙ g) (inl (refl, refl))
ended {at = at} {text = text} (over e) f g = subst (λ (f : Front). Ended at text f (at + length text)) (sym e ∙ g) refl
ended {at = at} {text = text} (faulty e) f g = subst (λ (f : Front). Ended at text f (at + length text)) (sym e ∙ g) refl
ended {at = at} {text = text} {to = to} (past_gap n e k) f g = subst (λ (f : Front). Ended at text f to) (sym e ∙ g) k
ended {at = at} {text = text} {to = to} (past_token w n e never k) f g = subst (λ (f : Front). Ended at text f to) (sym e ∙ g) (inr (never, k))

pub one_end : {at : ℕ} {text : List ℕ} {a b : ℕ} → FirstEnds at text a → FirstEnds at text b → a ≡ b
one_end (closes n e) l = elim (ended l (takes _ n) e) [ inl x ↦ sym x.1 | inr x ↦ absurd (x.0 refl) ]
one_end (over e) l = sym (ended l finish e)
one_end (faulty e) l = sym (ended l broken e)
one_end (past_gap n e k) l = one_end k (ended l (skips n) e)
one_end (past_token w n e never k) l = elim (ended l (takes w n) e) [ inl x ↦ absurd (never x.0) | inr x ↦ one_end k x.1 ]

-- and the end is within the text
pub ends_after : {at : ℕ} {text : List ℕ} {to : ℕ} → FirstEnds at text to → at ≤ to
ends_after (past_gap n e l) = let h = ends_after l in omega arith
ends_after (past_token w n e never l) = let h = ends_after l in omega arith
ends_after x = omega arith

pub skips_fit : (text : List ℕ) (n : ℕ) → front text ≡ skips n → (0 < n) × (n ≤ length text)
skips_fit text n e = subst (IsWithin (length text)) e (front_within text)

pub takes_fit : (text : List ℕ) (w : Word) (n : ℕ) → front text ≡ takes w n → (0 < n) × (n ≤ length text)
takes_fit text w n e = subst (IsWithin (length text)) e (front_within text)

pub ends_within : {at : ℕ} {text : List ℕ} {to : ℕ} → FirstEnds at text to → to ≤ at + length text
ends_within {text = text} (closes n e) = let f = (takes_fit text _ n e).1 in omega arith
ends_within {text = text} (past_gap n e l) = let h = ends_within l in let f = (skips_fit text n e).1 in omega (arith, length-drop n text)
ends_within {text = text} (past_token w n e never l) = let h = ends_within l in let f = (takes_fit text w n e).1 in omega (arith, length-drop n text)
ends_within x = omega arith

-- and every text has one
abbrev pub SomeEnd : ℕ → List ℕ → Type 0
SomeEnd at text = (to : ℕ) × FirstEnds at text to

by_token : (at : ℕ) (text : List ℕ) (w : Word) (n : ℕ) → front text ≡ takes w n → SomeEnd (at + n) (drop n text) → (b : Bool) → is_endmodule w ≡ b → SomeEnd at text
by_token at text w n e l true is = (at + n, closes n (e ∙ ap (λ (v : Word). takes v n) (endmodule_is w is)))
by_token at text w n e l false is = (l.0, past_token w n e (endmodule_not w is) l.1)

by_front : (at : ℕ) (text : List ℕ) (f : Front) → front text ≡ f → ((n : ℕ) → 0 < n → n ≤ length text → SomeEnd (at + n) (drop n text)) → SomeEnd at text
by_front at text finish e rest = (at + length text, over e)
by_front at text broken e rest = (at + length text, faulty e)
by_front at text (skips n) e rest = let w = skips_fit text n e in let l = rest n w.0 w.1 in (l.0, past_gap n e l.1)
by_front at text (takes w n) e rest = let f = takes_fit text w n e in by_token at text w n e (rest n f.0 f.1) (is_endmodule w) refl

pub some_end : (fuel at : ℕ) (text : List ℕ) → length text ≤ fuel → SomeEnd at text
some_end zero at text h = by_front at text (front text) refl (λ n l w. absurd (omega (arith, h, l, w)))
some_end (suc fuel) at text h = by_front at text (front text) refl (λ n l w. some_end fuel (at + n) (drop n text) (omega (arith, h, l, w, length-drop n text)))
