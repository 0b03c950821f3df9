-- A text has one outcome.
use Rattle.std.proofs.Common.{ℕ, zero, suc, ◌+◌, ◌-◌, ◌≤◌, ◌<◌, ◌≡◌, List, [], ◌∷◌, ◌++◌, length, drop, take, Bool, true, false, Result, Ok, Err, refl, ◌∙◌, subst, arith, sym, ◌⊎◌, inl, inr}
use Rattle.std.proofs.lemmas.List.{length-drop}
use Rattle.kp_base.specs.{Refusal.e_rule, Place.place_after, declared.refusal.Refusal.Refusal}
use Rattle.kp_lex.specs.declared.{front.Front.Front, token.TokenKind.TokenKind, token.Token.Token, token.Lexed.Lexed}
use Rattle.kp_lex.specs.Text.{front_of, is_end, token_at, Lexes, finish, skip, token, last, broken, rule_of, HasOutcome}
use Rattle.kp_lex.proofs.Fits.{Fits, fits_front}
use Rattle.kp_lex.specs.declared.front.Front.TheVariants as fronts

-- the outcome, by the front of the text
abbrev Given : List Token → List ℕ → List ℕ → Front → Result Lexed Refusal → Type 0
Given tokens before text fronts.End o = o ≡ Ok (record { tokens = tokens; rest = length before })
Given tokens before text (fronts.Broken fault) o = o ≡ Err (e_rule (rule_of fault) (place_after before))
Given tokens before text (fronts.Gap n) o = Lexes tokens (before ++ take n text) (drop n text) o
Given tokens before text (fronts.Token kind n) o =
    ((is_end kind ≡ false) × Lexes (tokens ++ token_at before kind n ∷ []) (before ++ take n text) (drop n text) o)
    ⊎ ((is_end kind ≡ true) × (o ≡ Ok (record { tokens = tokens ++ token_at before kind n ∷ []; rest = length before + n })))

lexed : {tokens : List Token} {before text : List ℕ} {o : Result Lexed Refusal} → Lexes tokens before text o → (f : Front) → front_of text ≡ f → Given tokens before text f o
lexed {tokens = ts} {before = b} {text = t} (finish e) f g = subst (λ (f : Front). Given ts b t f (Ok (record { tokens = ts; rest = length b }))) (sym e ∙ g) refl
lexed {tokens = ts} {before = b} {text = t} {o = o} (skip n e d) f g = subst (λ (f : Front). Given ts b t f o) (sym e ∙ g) d
lexed {tokens = ts} {before = b} {text = t} {o = o} (token k n e z d) f g = subst (λ (f : Front). Given ts b t f o) (sym e ∙ g) (inl (z, d))
lexed {tokens = ts} {before = b} {text = t} (last k n e z) f g =
    subst (λ (f : Front). Given ts b t f (Ok (record { tokens = ts ++ token_at b k n ∷ []; rest = length b + n }))) (sym e ∙ g) (inr (z, refl))
lexed {tokens = ts} {before = b} {text = t} (broken r e) f g = subst (λ (f : Front). Given ts b t f (Err (e_rule (rule_of r) (place_after b)))) (sym e ∙ g) refl

pub one_outcome : {tokens : List Token} {before text : List ℕ} {a b : Result Lexed Refusal} → Lexes tokens before text a → Lexes tokens before text b → a ≡ b
one_outcome (finish e) l = sym (lexed l fronts.End e)
one_outcome (skip n e d) l = one_outcome d (lexed l (fronts.Gap n) e)
one_outcome (token k n e z d) l = elim (lexed l (fronts.Token k n) e) [ inl x ↦ one_outcome d x.1 | inr x ↦ cc (z, x.0) ]
one_outcome (last k n e z) l = elim (lexed l (fronts.Token k n) e) [ inl x ↦ cc (z, x.0) | inr x ↦ sym x.1 ]
one_outcome (broken r e) l = sym (lexed l (fronts.Broken r) e)

-- some outcome from here
abbrev Some_outcome : List Token → List ℕ → List ℕ → Type 0
Some_outcome tokens before text = (outcome : Result Lexed Refusal) × Lexes tokens before text outcome

-- there is an outcome, if there is one for each shorter text
step : (tokens : List Token) (before text : List ℕ) → ((tokens : List Token) (before rest : List ℕ) → length rest < length text → Some_outcome tokens before rest) → Some_outcome tokens before text
step tokens before text next = go (front_of text) refl (fits_front text)
  where
    shorter : (n : ℕ) → 0 < n → n ≤ length text → length (drop n text) < length text
    shorter n low high = let h : length (drop n text) ≡ length text - n = length-drop n text in omega arith

    kind_ends : (kind : TokenKind) (n : ℕ) (b : Bool) → is_end kind ≡ b → front_of text ≡ fronts.Token kind n → 0 < n → n ≤ length text → Some_outcome tokens before text
    kind_ends kind n true z e low high = (_, last kind n e z)
    kind_ends kind n false z e low high =
        let h = next (tokens ++ token_at before kind n ∷ []) (before ++ take n text) (drop n text) (shorter n low high) in (h.0, token kind n e z h.1)

    go : (f : Front) → front_of text ≡ f → Fits (length text) f → Some_outcome tokens before text
    go fronts.End e f = (_, finish e)
    go (fronts.Broken fault) e f = (_, broken fault e)
    go (fronts.Gap n) e f = let h = next tokens (before ++ take n text) (drop n text) (shorter n f.0 f.1) in (h.0, skip n e h.1)
    go (fronts.Token kind n) e f = kind_ends kind n (is_end kind) refl e f.0 f.1

within : (k : ℕ) (tokens : List Token) (before text : List ℕ) → length text < k → Some_outcome tokens before text
within zero tokens before text h = absurd (omega arith)
within (suc k) tokens before text h = step tokens before text (λ more front rest shorter. within k more front rest (omega arith))

pub some_outcome : (text : List ℕ) → (outcome : Result Lexed Refusal) × HasOutcome text outcome
some_outcome text = within (suc (length text)) [] [] text (omega arith)
