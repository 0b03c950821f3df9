-- The tokens that are computed are those at the front of the text.
use Rattle.std.proofs.Common.{◌≡◌, ◌∙◌, ℕ, zero, suc, ◌+◌, ◌≤◌, List, [], ◌∷◌, ◌++◌, length, take, drop, map, Bool, true, false, ◌||◌, cond, Option, Some, None, option_map, Result, Ok, refl, ap, sym, subst, append_assoc, append-nil, length-append, ◌⊎◌, inl, inr}
use Rattle.std.proofs.Math.Seq.{drop-append_seam}
use Rattle.std.proofs.lemmas.List.{take-append-drop, length-take-le}
use Rattle.kp_base.specs.{Place.place_after, declared.refusal.Refusal.Refusal}
use Rattle.kp_base.proofs.Places.{line_after_next, column_after_next}
use Rattle.kp_lex.specs.Text.{front_of, is_end, Lexes, finish, skip, token, last, broken, token_at}
use Rattle.kp_lex.specs.declared.{front.Front.Front, token.TokenKind.TokenKind, token.Token.Token, token.Lexed.Lexed}
use Rattle.kp_parse_grammar.specs.Tokens.{lexeme_of}
use Rattle.kp_lex.specs.declared.front.Front.TheVariants as fronts
use Rattle.kp_lex.proofs.Fits.{gap_fits, token_fits}
use Rattle.kp_described.specs.Computed.{next_place, moved, Found, found, lexeme, is_section, after_front, tokens_from}

-- positions
one_more : (front : List ℕ) (byte : ℕ) → place_after (front ++ byte ∷ []) ≡ next_place (place_after front) byte
one_more front byte = λ i. record { line = line_after_next front byte i; col = column_after_next front byte i }

place_moved : (front bytes : List ℕ) → place_after (front ++ bytes) ≡ moved (place_after front) bytes
place_moved front [] = ap place_after (append-nil front)
place_moved front (byte ∷ bytes) =
    ap place_after (sym (append_assoc front (byte ∷ []) bytes)) ∙ place_moved (front ++ byte ∷ []) bytes ∙ ap (λ p. moved p bytes) (one_more front byte)

-- more tokens than those so far
abbrev Grows : List Token → Lexed → Type 0
Grows tokens out = (more : List Token) × (out.tokens ≡ tokens ++ more)

with_more : (tokens : List Token) (t : Token) (out : Lexed) → Grows (tokens ++ t ∷ []) out → (more : List Token) × (out.tokens ≡ tokens ++ t ∷ more)
with_more tokens t out g = (g.0, g.1 ∙ append_assoc tokens (t ∷ []) g.0)

grows : {tokens : List Token} {before text : List ℕ} {o : Result Lexed Refusal} → Lexes tokens before text o → (out : Lexed) → o ≡ Ok out → Grows tokens out
grows {tokens = ts} {before = b} (finish e) out h = let same : out ≡ record { tokens = ts; rest = length b } = cc h in ([], rw same (sym (append-nil ts)))
grows (skip n e l) out h = grows l out h
grows {tokens = ts} {before = b} (token k n e z l) out h = let g = with_more ts (token_at b k n) out (grows l out h) in (token_at b k n ∷ g.0, g.1)
grows {tokens = ts} {before = b} (last k n e z) out h =
    let same : out ≡ record { tokens = ts ++ token_at b k n ∷ []; rest = length b + n } = cc h in (token_at b k n ∷ [], rw same refl)
grows (broken r e) out h = absurd (cc h)

-- what is known of the outcome by the front of the text
abbrev Given : List Token → List ℕ → List ℕ → Lexed → Front → Type 0
Given tokens before text out fronts.End = Grows tokens out
Given tokens before text out (fronts.Broken fault) = Unit {0}
Given tokens before text out (fronts.Gap n) = Lexes tokens (before ++ take n text) (drop n text) (Ok out)
Given tokens before text out (fronts.Token kind n) =
    ((more : List Token) × (out.tokens ≡ tokens ++ token_at before kind n ∷ more))
    × ((is_end kind ≡ true) ⊎ Lexes (tokens ++ token_at before kind n ∷ []) (before ++ take n text) (drop n text) (Ok out))

given : {tokens : List Token} {before text : List ℕ} {o : Result Lexed Refusal} → Lexes tokens before text o → (out : Lexed) → o ≡ Ok out → (f : Front) → front_of text ≡ f → Given tokens before text out f
given {tokens = ts} {before = b} {text = t} (finish e) out h f g = subst (λ (f : Front). Given ts b t out f) (sym e ∙ g) (grows (finish {tokens = ts} {before = b} {text = t} e) out h)
given {tokens = ts} {before = b} {text = t} (skip n e l) out h f g =
    subst (λ (f : Front). Given ts b t out f) (sym e ∙ g) (subst (λ (o : Result Lexed Refusal). Lexes ts (b ++ take n t) (drop n t) o) h l)
given {tokens = ts} {before = b} {text = t} (token k n e z l) out h f g = subst (λ (f : Front). Given ts b t out f) (sym e ∙ g) (
  with_more ts (token_at b k n) out (grows l out h),
  inr (subst (λ (o : Result Lexed Refusal). Lexes (ts ++ token_at b k n ∷ []) (b ++ take n t) (drop n t) o) h l),
)
given {tokens = ts} {before = b} {text = t} (last k n e z) out h f g =
    let same : out ≡ record { tokens = ts ++ token_at b k n ∷ []; rest = length b + n } = cc h in
    subst (λ (f : Front). Given ts b t out f) (sym e ∙ g) (([], rw same refl), inl z)
given (broken r e) out h f g = absurd (cc h)

-- an option of which the image is known
image_of : {A B : Type 0} (f : A → B) (o : Option A) (y : B) → option_map f o ≡ Some y → (x : A) × (o ≡ Some x) × (f x ≡ y)
image_of f None y h = absurd (cc)
image_of f (Some x) y h = (x, refl, cc)

same_some : {A : Type 0} (x y : A) → Some x ≡ Some y → x ≡ y
same_some x y h = cc

-- The outcome has these tokens after those so far, and more: and their bytes are those in the text.
pub record Finds (all : List ℕ) (before : List Token) (ts : List Found) (out : Lexed) : Type 0 where
  pub more : List Token
  pub tokens : out.tokens ≡ before ++ (map (λ t. t.0) ts ++ more)
  pub bytes : map (lexeme_of all) (map (λ t. t.0) ts) ≡ map lexeme ts

-- The bytes of a token that begins after some bytes.
spelled_there : (before text : List ℕ) (kind : TokenKind) (len : ℕ) → lexeme_of (before ++ text) (token_at before kind len) ≡ lexeme (found (length before) (place_after before) kind len text)
spelled_there before text kind len = ap (λ (bytes : List ℕ). record { kind = kind; place = place_after before; bytes = take len bytes }) (drop-append_seam before text)

cut_again : (before text : List ℕ) (len : ℕ) → (before ++ take len text) ++ drop len text ≡ before ++ text
cut_again before text len = append_assoc before (take len text) (drop len text) ∙ ap (λ x. before ++ x) (take-append-drop len text)

-- what is known of the calls for the rest of the text
abbrev Goes : ℕ → Type 0
Goes k = (tokens : List Token) (before text : List ℕ) (out : Lexed) (ts : List Found) → Lexes tokens before text (Ok out)
    → tokens_from k (length before) (place_after before) text ≡ Some ts → Finds (before ++ text) tokens ts out

after : (k : ℕ) → Goes k → (tokens : List Token) (before text : List ℕ) (len : ℕ) → len ≤ length text → (out : Lexed) (ts : List Found)
    → Lexes tokens (before ++ take len text) (drop len text) (Ok out)
    → tokens_from k (length before + len) (moved (place_after before) (take len text)) (drop len text) ≡ Some ts → Finds (before ++ text) tokens ts out
after k go tokens before text len h out ts l e =
    let size : length (before ++ take len text) ≡ length before + len = length-append before (take len text) ∙ ap (λ n. length before + n) (length-take-le len text h) in
    let place : place_after (before ++ take len text) ≡ moved (place_after before) (take len text) = place_moved before (take len text) in
    subst (λ (all : List ℕ). Finds all tokens ts out) (cut_again before text len)
    (go tokens (before ++ take len text) (drop len text) out ts l ((λ i. tokens_from k (size i) (place i) (drop len text)) ∙ e))

-- the last token of the front, and one more token before others
only_one : (tokens : List Token) (before text : List ℕ) (kind : TokenKind) (len : ℕ) (out : Lexed) → (more : List Token) × (out.tokens ≡ tokens ++ token_at before kind len ∷ more)
    → Finds (before ++ text) tokens (found (length before) (place_after before) kind len text ∷ []) out
only_one tokens before text kind len out m = record { more = m.0; tokens = m.1; bytes = λ i. spelled_there before text kind len i ∷ [] }

with_one : (tokens : List Token) (before text : List ℕ) (kind : TokenKind) (len : ℕ) (out : Lexed) (ts : List Found)
    → Finds (before ++ text) (tokens ++ token_at before kind len ∷ []) ts out
    → Finds (before ++ text) tokens (found (length before) (place_after before) kind len text ∷ ts) out
with_one tokens before text kind len out ts h = record {
  more = h.more;
  tokens = h.tokens ∙ append_assoc tokens (token_at before kind len ∷ []) (map (λ t. t.0) ts ++ h.more);
  bytes = λ i. spelled_there before text kind len i ∷ h.bytes i;
}

by_front : (k : ℕ) → Goes k → (tokens : List Token) (before text : List ℕ) (out : Lexed) (ts : List Found) (f : Front) → front_of text ≡ f → Given tokens before text out f
    → after_front (tokens_from k) (length before) (place_after before) text f ≡ Some ts → Finds (before ++ text) tokens ts out
by_front k go tokens before text out ts fronts.End e g h =
    subst (λ (ts : List Found). Finds (before ++ text) tokens ts out) (same_some [] ts h) (record { more = g.0; tokens = g.1; bytes = refl })
by_front k go tokens before text out ts (fronts.Gap len) e g h = after k go tokens before text len (gap_fits text len e).1 out ts g h
by_front k go tokens before text out ts (fronts.Token kind len) e g h = by_kind (is_end kind) (is_section kind) refl g.1 h
  where
    there : Found
    there = found (length before) (place_after before) kind len text

    rest : Option (List Found)
    rest = tokens_from k (length before + len) (moved (place_after before) (take len text)) (drop len text)

    by_kind : (ends opens : Bool) → is_end kind ≡ ends
        → ((is_end kind ≡ true) ⊎ Lexes (tokens ++ token_at before kind len ∷ []) (before ++ take len text) (drop len text) (Ok out))
        → cond (ends || opens) (Some (there ∷ [])) (option_map (λ ts. there ∷ ts) rest) ≡ Some ts → Finds (before ++ text) tokens ts out
    by_kind true opens is l h = subst (λ (ts : List Found). Finds (before ++ text) tokens ts out) (same_some _ ts h) (only_one tokens before text kind len out g.0)
    by_kind false true is l h = subst (λ (ts : List Found). Finds (before ++ text) tokens ts out) (same_some _ ts h) (only_one tokens before text kind len out g.0)
    by_kind false false is (inl z) h = absurd (cc (is, z))
    by_kind false false is (inr l) h =
        let o = image_of (λ ts. there ∷ ts) rest ts h in
        subst (λ (ts : List Found). Finds (before ++ text) tokens ts out) o.2
        (with_one tokens before text kind len out o.0 (after k go (tokens ++ token_at before kind len ∷ []) before text len (token_fits text kind len e).1 out o.0 l o.1))
by_front k go tokens before text out ts (fronts.Broken fault) e g h = absurd (cc)

pub finds : (k : ℕ) → Goes k
finds zero tokens before text out ts l h = absurd (cc)
finds (suc k) tokens before text out ts l h = by_front k (finds k) tokens before text out ts (front_of text) refl (given l out refl (front_of text) refl) h
