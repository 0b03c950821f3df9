-- The token at an index.
use Rattle.std.proofs.Common.{ℕ, ◌≡◌, ◌==◌, ◌<◌, ◌≤◌, ◌+◌, ◌-◌, List, [], ◌∷◌, length, drop, take, map, true, false, refl, sym, ap, ◌∙◌, eq-eqb, arith}
use Rattle.std.{proofs.lemmas.List.drop_more, proofs.lemmas.List.drop-map, proofs.lemmas.Bool.eqb-true, specs.Prelude.slice_index_or}
use Rattle.kp_grammar.specs.{Grammar.Terminal, Machine.Stops, Machine.look, Machine.wrong}
use Rattle.kp_grammar.proofs.Ways.{took}
use Rattle.kp_lex.specs.declared.token.{Token.Token, TokenKind.TokenKind}
use Rattle.kp_parse_grammar.specs.{Tokens.Lexeme, Tokens.lexeme_of, Tokens.lexemes, Tokens.kind_class, Tokens.IDENTIFIER, Tokens.named_of, Follow.tables}
use Rattle.kp_parse_grammar.specs.Language.{Sym, State, Way, NAME, NUM, LIT, named, number, literal, language, is_over}
use Rattle.kp_parse_grammar.specs.Reading.{Goes, class_at, Finds, Turns}
use Rattle.kp_lex.specs.declared.token.Keyword.TheVariants as keywords
use Rattle.kp_lex.specs.declared.token.Mark.TheVariants as marks
use Rattle.kp_lex.specs.declared.token.TokenKind.TheVariants as kinds
use Rattle.kp_bits.specs.declared.literal.Literal.{Literal}

-- the bytes of a token from its start to its end
same_span : (a b : ℕ) → (a + b) - a ≡ b
same_span a b = omega arith

-- a token among the tokens is a lexeme among the lexemes
pub lexeme_at : (text : List ℕ) (tokens : List Token) (i : ℕ) (t : Token) → i < length tokens → t ≡ slice_index_or tokens i t
    → drop i (lexemes text tokens) ≡ record { kind = t.kind; place = t.place; bytes = take ((t.start + t.len) - t.start) (drop t.start text) } ∷ drop (i + 1) (lexemes text tokens)
lexeme_at text tokens i t h e =
    let spans : (t.start + t.len) - t.start ≡ t.len = same_span t.start t.len in
    let moved : drop (i + 1) (lexemes text tokens) ≡ map (lexeme_of text) (drop (i + 1) tokens) = drop-map (lexeme_of text) (i + 1) tokens in
    let first : drop i tokens ≡ t ∷ drop (i + 1) tokens = drop_more tokens i t h ∙ ap (λ (x : Token). x ∷ drop (i + 1) tokens) (sym e) in
    rw (spans, moved) (drop-map (lexeme_of text) i tokens ∙ ap (map (lexeme_of text)) first)

-- token i isn't of the class
pub missed : (ts : List Lexeme) (i c : ℕ) → false ≡ (class_at ts i == c) → (way : Way) (s : List Sym) (v : State) → Goes (Terminal c way ∷ s) v (drop i ts) (Stops (length (drop i ts)))
missed ts i c h way s v = wrong (λ e. cc (eq-eqb (class_at ts i) c e, h))

pub missed_kind : (ts : List Lexeme) (i c : ℕ) (t : Lexeme) (rest : List Lexeme) → drop i ts ≡ t ∷ rest → false ≡ (kind_class t.kind == c)
    → (way : Way) (s : List Sym) (v : State) → Goes (Terminal c way ∷ s) v (drop i ts) (Stops (length (drop i ts)))
missed_kind ts i c t rest h e = missed ts i c (e ∙ ap (λ (k : ℕ). k == c) (sym (ap (look language) h)))

pub missed_end : (ts : List Lexeme) (i c : ℕ) → drop i ts ≡ [] → false ≡ (0 == c)
    → (way : Way) (s : List Sym) (v : State) → Goes (Terminal c way ∷ s) v (drop i ts) (Stops (length (drop i ts)))
missed_end ts i c h e = missed ts i c (e ∙ ap (λ (k : ℕ). k == c) (sym (ap (look language) h)))

shorter : (ts : List Lexeme) (i j : ℕ) (t : Lexeme) → drop i ts ≡ t ∷ drop j ts → length (drop j ts) + 1 ≤ length (drop i ts)
shorter ts i j t h = let e = ap length h in omega (arith, e)

-- a name, a number and a literal
pub reads_name : (ts : List Lexeme) (i j : ℕ) (t : Lexeme) → drop i ts ≡ t ∷ drop j ts → kind_class t.kind ≡ IDENTIFIER → Turns ts NAME [] (named (named_of t) ∷ []) i j 1
reads_name ts i j t h e = record {
  leads = λ s cs vs o g. took language is_over tables h e refl g;
  shrinks = shorter ts i j t h;
}

pub reads_number : (ts : List Lexeme) (i j : ℕ) (t : Lexeme) (n : ℕ) → drop i ts ≡ t ∷ drop j ts → t.kind ≡ kinds.Number n → Turns ts NUM [] (number (record { value = n; at = t.place }) ∷ []) i j 1
reads_number ts i j t n h e = record {
  leads = λ s cs vs o g. took language is_over tables h (ap kind_class e) refl (rw e g);
  shrinks = shorter ts i j t h;
}

pub reads_literal : (ts : List Lexeme) (i j : ℕ) (t : Lexeme) (l : Literal) → drop i ts ≡ t ∷ drop j ts → t.kind ≡ kinds.Literal l → Turns ts LIT [] (literal (record { literal = l; at = t.place }) ∷ []) i j 1
reads_literal ts i j t l h e = record {
  leads = λ s cs vs o g. took language is_over tables h (ap kind_class e) refl (rw e g);
  shrinks = shorter ts i j t h;
}

-- what isn't a number, and what isn't a literal
pub no_number : (k : TokenKind) → ((n : ℕ) → k ≡ kinds.Number n → ⊥) → false ≡ (kind_class k == 2)
no_number (kinds.Number n) h = absurd (h n refl)
no_number (kinds.Keyword keywords.Machine) h = refl
no_number (kinds.Mark marks.Semicolon) h = refl
no_number _ h = refl

pub no_literal : (k : TokenKind) → ((l : Literal) → k ≡ kinds.Literal l → ⊥) → false ≡ (kind_class k == 3)
no_literal (kinds.Literal l) h = absurd (h l refl)
no_literal (kinds.Keyword keywords.Machine) h = refl
no_literal (kinds.Mark marks.Semicolon) h = refl
no_literal _ h = refl

-- a token that is there, and is of a class
pub there : {ts : List Lexeme} {t : Lexeme} {i j : ℕ} → drop i ts ≡ t ∷ drop j ts → (c : ℕ) → true ≡ (class_at ts i == c) → Finds ts c t.place i j
there {ts} {t = t} {i = i} whole c h = record { token = t; whole = whole; class = sym (ap (look language) whole) ∙ eqb-true (class_at ts i) c (sym h); place = refl }

-- where the text has not ended there is one
pub not_ended : (ts : List Lexeme) (i : ℕ) → false ≡ (class_at ts i == 0) → drop i ts ≡ [] → ⊥
not_ended ts i h e = let k : class_at ts i ≡ 0 = ap (look language) e in cc (h ∙ ap (λ (c : ℕ). c == 0) k)
