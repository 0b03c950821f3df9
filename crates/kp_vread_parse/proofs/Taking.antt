-- The token with a given number.
use Rattle.std.proofs.Common.{ℕ, ◌≡◌, ◌==◌, ◌<◌, ◌≤◌, ◌+◌, ◌-◌, List, [], ◌∷◌, ◌++◌, length, drop, take, map, get_or, Bool, true, false, refl, sym, ap, subst, ◌∙◌, arith}
use Rattle.std.proofs.lemmas.{Bool.Decides.nat_tests, List.drop_more, List.drop_all, List.drop-map}
use Rattle.std.specs.Prelude.{slice_index_or}
use Rattle.kp_bits.specs.declared.literal.Literal.{Literal}
use Rattle.kp_grammar.specs.{Grammar.Terminal, Machine.Stops, Machine.look, Machine.wrong}
use Rattle.kp_grammar.proofs.Ways.{took}
use Rattle.kp_vlog.specs.Language.{Way, Sym, Value, ID, NUM, LIT, dropped, named, number, literal, word_class, verilog}
use Rattle.kp_vlog.specs.{declared.token.VKind.VKind, declared.token.VToken.VToken, Tokens.Token, Outcome.token_of, Outcome.word_of, inner.Follow.tables}
use Rattle.kp_vlog.specs.declared.token.Keyword.TheVariants as keywords
use Rattle.kp_vlog.specs.declared.token.Mark.TheVariants as marks
use Rattle.kp_vlog.specs.declared.token.VKind.TheVariants as kinds
use Rattle.kp_vread_parse.specs.{declared.tokens.Fixed.Fixed, inner.Words.class_of, inner.Words.symbol}
use Rattle.kp_vread_parse.specs.inner.Reading.{Goes, class_at, never, Turns, TurnsYet}
use Rattle.kp_vread_parse.specs.declared.tokens.Fixed.TheVariants as fixed

-- the class of a token of this kind
abbrev pub kind_class : VKind → ℕ
kind_class k = word_class (word_of [] k)

same_class : (bytes : List ℕ) (k : VKind) → word_class (word_of bytes k) ≡ kind_class k
same_class bytes kinds.Ident = refl
same_class bytes _ = refl

-- a token with its bytes
abbrev pub spelled : List ℕ → VKind → ℕ → Token
spelled bytes k at = record { word = word_of bytes k; at = at }

-- the bytes of a token from its start to its end
same_span : (a b : ℕ) → (a + b) - a ≡ b
same_span a b = omega arith

pub token_at : (text : List ℕ) (tokens : List VToken) (i : ℕ) (t : VToken) → i < length tokens → t ≡ slice_index_or tokens i t
    → drop i (map (token_of text) tokens) ≡ spelled (take ((t.start + t.len) - t.start) (drop t.start text)) t.kind t.start ∷ drop (i + 1) (map (token_of text) tokens)
token_at text tokens i t h e =
    let spans : (t.start + t.len) - t.start ≡ t.len = same_span t.start t.len in
    let moved : drop (i + 1) (map (token_of text) tokens) ≡ map (token_of text) (drop (i + 1) tokens) = drop-map (token_of text) (i + 1) tokens in
    let first : drop i tokens ≡ t ∷ drop (i + 1) tokens = drop_more tokens i t h ∙ ap (λ (x : VToken). x ∷ drop (i + 1) tokens) (sym e) in
    rw (spans, moved) (drop-map (token_of text) i tokens ∙ ap (map (token_of text)) first)

pub class_is : (ts : List Token) (i : ℕ) (bytes : List ℕ) (k : VKind) (at : ℕ) (rest : List Token) → drop i ts ≡ spelled bytes k at ∷ rest → class_at ts i ≡ kind_class k
class_is ts i bytes k at rest h = ap (look verilog) h ∙ same_class bytes k

same_number : (n : ℕ) → (n == n) ≡ true
same_number n = grind arith

differ : (a b : ℕ) → false ≡ (a == b) → a ≡ b → ⊥
differ a b h e = cc (same_number b, ap (λ (n : ℕ). n == b) e, h)

-- token i isn't of the class
pub missed : (ts : List Token) (i c : ℕ) → false ≡ (class_at ts i == c) → (way : Way) (s : List Sym) (vs : List Value) → Goes (Terminal c way ∷ s) vs (drop i ts) (Stops (length (drop i ts)))
missed ts i c h way s vs = wrong (λ e. differ (class_at ts i) c h e)

-- the class of a token, or of the end of the text
pub kind_at : (ts : List Token) (i c : ℕ) (bytes : List ℕ) (k : VKind) (at : ℕ) (rest : List Token) (b : Bool) → drop i ts ≡ spelled bytes k at ∷ rest → b ≡ (kind_class k == c) → b ≡ (class_at ts i == c)
kind_at ts i c bytes k at rest b h e = e ∙ ap (λ (d : ℕ). d == c) (sym (class_is ts i bytes k at rest h))

pub end_at : (ts : List Token) (i c : ℕ) → drop i ts ≡ [] → false ≡ (0 == c) → false ≡ (class_at ts i == c)
end_at ts i c h e = e ∙ ap (λ (d : ℕ). d == c) (sym (ap (look verilog) h))

one_less : (ts : List Token) (i j : ℕ) (t : Token) → drop i ts ≡ t ∷ drop j ts → length (drop j ts) + 1 ≤ length (drop i ts)
one_less ts i j t h = let e = ap length h in omega (arith, e)

-- a keyword or a punctuator, a name, a number and a literal
pub reads_word : (ts : List Token) (i j c : ℕ) (t : Token) → drop i ts ≡ t ∷ drop j ts → word_class t.word ≡ c → Turns ts (Terminal c dropped ∷ []) [] [] i j 1
reads_word ts i j c t h e = record { leads = λ s vs o g. took verilog never tables h e refl g; shrinks = one_less ts i j t h }

pub reads_kind : (ts : List Token) (i j c : ℕ) (bytes : List ℕ) (k : VKind) (at : ℕ) → drop i ts ≡ spelled bytes k at ∷ drop j ts → true ≡ (kind_class k == c) → Turns ts (Terminal c dropped ∷ []) [] [] i j 1
reads_kind ts i j c bytes k at h e = reads_word ts i j c (spelled bytes k at) h (same_class bytes k ∙ equal (kind_class k) c e)
  where
    equal : (a b : ℕ) → true ≡ (a == b) → a ≡ b
    equal a b e = grind (arith, nat_tests)

pub reads_name : (ts : List Token) (i j : ℕ) (bytes : List ℕ) (k : VKind) (at : ℕ) → drop i ts ≡ spelled bytes k at ∷ drop j ts → k ≡ kinds.Ident
    → Turns ts (ID ∷ []) [] (named (record { name = bytes; at = at }) ∷ []) i j 1
reads_name ts i j bytes k at h e =
    let w : drop i ts ≡ spelled bytes kinds.Ident at ∷ drop j ts = h ∙ ap (λ (x : VKind). spelled bytes x at ∷ drop j ts) e in
    record { leads = λ s vs o g. took verilog never tables w refl refl g; shrinks = one_less ts i j _ w }

pub reads_number : (ts : List Token) (i j : ℕ) (bytes : List ℕ) (k : VKind) (at n : ℕ) → drop i ts ≡ spelled bytes k at ∷ drop j ts → k ≡ kinds.Number n
    → Turns ts (NUM ∷ []) [] (number (record { value = n; at = at }) ∷ []) i j 1
reads_number ts i j bytes k at n h e =
    let w : drop i ts ≡ spelled bytes (kinds.Number n) at ∷ drop j ts = h ∙ ap (λ (x : VKind). spelled bytes x at ∷ drop j ts) e in
    record { leads = λ s vs o g. took verilog never tables w refl refl g; shrinks = one_less ts i j _ w }

pub reads_literal : (ts : List Token) (i j : ℕ) (bytes : List ℕ) (k : VKind) (at : ℕ) (l : Literal) → drop i ts ≡ spelled bytes k at ∷ drop j ts → k ≡ kinds.Literal l
    → Turns ts (LIT ∷ []) [] (literal (record { literal = l; at = at }) ∷ []) i j 1
reads_literal ts i j bytes k at l h e =
    let w : drop i ts ≡ spelled bytes (kinds.Literal l) at ∷ drop j ts = h ∙ ap (λ (x : VKind). spelled bytes x at ∷ drop j ts) e in
    record { leads = λ s vs o g. took verilog never tables w refl refl g; shrinks = one_less ts i j _ w }

-- a token without a value isn't the end of the text
pub fixed_isnt_end : (f : Fixed) → false ≡ (0 == class_of f)
fixed_isnt_end (fixed.Word keywords.Module) = refl
fixed_isnt_end (fixed.Sign marks.Semicolon) = refl
fixed_isnt_end _ = refl

-- what isn't a name, a number, a literal
pub no_name : (k : VKind) → (k ≡ kinds.Ident → ⊥) → false ≡ (kind_class k == 1)
no_name kinds.Ident h = absurd (h refl)
no_name (kinds.Keyword keywords.Module) h = refl
no_name (kinds.Mark marks.Semicolon) h = refl
no_name _ h = refl

pub no_number : (k : VKind) → ((n : ℕ) → k ≡ kinds.Number n → ⊥) → false ≡ (kind_class k == 2)
no_number (kinds.Number n) h = absurd (h n refl)
no_number (kinds.Keyword keywords.Module) h = refl
no_number (kinds.Mark marks.Semicolon) h = refl
no_number _ h = refl

pub no_literal : (k : VKind) → ((l : Literal) → k ≡ kinds.Literal l → ⊥) → false ≡ (kind_class k == 3)
no_literal (kinds.Literal l) h = absurd (h l refl)
no_literal (kinds.Keyword keywords.Module) h = refl
no_literal (kinds.Mark marks.Semicolon) h = refl
no_literal _ h = refl

-- the tokens that are the same in each module, one by one
module _ (ts : List Token) (given : List Fixed) (at k here : ℕ) (d : Fixed) (l : k < length given) (old : TurnsYet ts (map symbol given) (map symbol (drop k given)) [] [] at here) where
  pub skipped : (next : ℕ) → Turns ts (symbol (get_or given k d) ∷ []) [] [] here next 1 → TurnsYet ts (map symbol given) (map symbol (drop (k + 1) given)) [] [] at next
  skipped next t = record {
    leads = λ s vs o h. old.leads s vs o (subst (λ (xs : List Fixed). Goes (map symbol xs ++ s) vs (drop here ts) o) (sym (drop_more given k d l)) (t.leads (map symbol (drop (k + 1) given) ++ s) vs o h));
    shrinks = let a = old.shrinks in let b = t.shrinks in omega (arith, a, b);
  }

  pub stuck : false ≡ (class_at ts here == class_of (get_or given k d)) → (s : List Sym) (vs : List Value) → Goes (map symbol given ++ s) vs (drop at ts) (Stops (length (drop here ts)))
  stuck f s vs =
      old.leads s vs _ (subst (λ (xs : List Fixed). Goes (map symbol xs ++ s) vs (drop here ts) (Stops (length (drop here ts)))) (sym (drop_more given k d l))
      (missed ts here (class_of (get_or given k d)) f dropped _ vs))

pub skipped_all : (ts : List Token) (given : List Fixed) (at k here : ℕ) → length given ≤ k → TurnsYet ts (map symbol given) (map symbol (drop k given)) [] [] at here → Turns ts (map symbol given) [] [] at here 0
skipped_all ts given at k here l old = record {
  leads = λ s vs o h. old.leads s vs o (subst (λ (xs : List Fixed). Goes (map symbol xs ++ s) vs (drop here ts) o) (sym (drop_all k given l)) h);
  shrinks = let a = old.shrinks in omega (arith, a);
}
