-- A job and a text after it: the head of both is the job, if the job's text ends with a line feed.
use Rattle.std.proofs.Common.{◌≡◌, ◌∙◌, ◌⊎◌, inl, inr, ℕ, zero, suc, ◌+◌, ◌<◌, ◌≤◌, ◌==◌, ◌&&◌, ◌||◌, Bool, true, false, not, cond, List, [], ◌∷◌, ◌++◌, length, take, drop, Result, Ok, Err, Some, None, refl, sym, ap, ap₂, subst, arith, append_assoc}
use Rattle.std.proofs.lemmas.{Bool.cases_lt, Bool.ltb-true, Bool.ltb-false, Bool.lt-ltb, List.take-append-le, List.drop-append-le, List.length-drop}
use Rattle.std.specs.{Prelude.nat_lt, Prelude.⊤, Prelude.All, declared.option.Option.Option}
use Rattle.kp_base.specs.{Characters.is_digit, Characters.is_letter, Characters.is_word, Characters.run_length, Place.place_after}
use Rattle.kp_base.specs.declared.refusal.Refusal.{Refusal}
use Rattle.kp_grammar.specs.Grammar.{Grammar, Symbol, Terminal, Nonterminal, Action, Derives, stay, expand, read, build, Has, here, there, alternatives}
use Rattle.kp_ast.specs.declared.tree.Job.{Job}
use Rattle.kp_lex.specs.Text.{is_layout, gap_length, is_in_run, run_of, keyword_or_name, identifier, literal_or_broken, number_or_literal, number_run, mark_or_broken, mark, mark_or_shorter, token_of, front_of, token_at, is_end, Lexes, finish, skip, token, last, broken, tail_of, StandsIn}
use Rattle.kp_lex.specs.declared.{front.Front.Front, token.Keyword.Keyword, token.TokenKind.TokenKind, token.Token.Token, token.Lexed.Lexed, token.Mark.Mark}
use Rattle.kp_lex.specs.Words.{keyword_of, single_mark, double_mark}
use Rattle.kp_lex.proofs.{Fits.Fits, Fits.fits_front, Fits.gap_within, Fits.token_fits, Stands.tokens_stand}
use Rattle.kp_parse_grammar.specs.Language.{dropped as drops, State, Sym, NAME, NUM, no_decls, no_blocks, one_block, make_job, word, mark as mark_symbol, JOB, DECLS, STAGE, STAGES, IMAGE, STALLS, INPUTS, rules, language, at, job as job_value}
use Rattle.kp_parse_grammar.specs.Tokens.{Lexeme, lexemes, spelled, kind_class, keyword_class, mark_class}
use Rattle.kp_lex.specs.declared.front.Front.TheVariants as fronts
use Rattle.kp_lex.specs.declared.front.TokenFault.TheVariants as faults
use Rattle.kp_lex.specs.declared.token.Keyword.TheVariants as keywords
use Rattle.kp_lex.specs.declared.token.TokenKind.TheVariants as kinds
use Rattle.kp_bits.specs.{Literals.number_of, Literals.literal_of, declared.literal.Literal.Literal, declared.literal.LiteralFault.LiteralFault}
use Rattle.kp_lex.specs.declared.token.Mark.TheVariants as marks
use Rattle.kp_frontend.specs.Judging.{JudgesText, JudgesHeadText, JudgesText.accepted, JudgesHeadText.head_accepted}

-- the last byte of b followed by a text is a line feed
abbrev pub LastIs : ℕ → List ℕ → Type 0
LastIs b [] = b ≡ 10
LastIs b (c ∷ rest) = LastIs c rest

-- a text is empty or ends with a line feed
abbrev pub EndsLine : List ℕ → Type 0
EndsLine [] = ⊤
EndsLine (b ∷ rest) = LastIs b rest

pub ends_line : (front : List ℕ) → EndsLine (front ++ 10 ∷ [])
ends_line [] = refl
ends_line (b ∷ rest) = after b rest
  where
    after : (b : ℕ) (rest : List ℕ) → LastIs b (rest ++ 10 ∷ [])
    after b [] = refl
    after b (c ∷ cs) = after c cs

-- so does what is left of it
pub ends_after : (n : ℕ) (text : List ℕ) → EndsLine text → EndsLine (drop n text)
ends_after zero text e = e
ends_after (suc n) [] e = tt
ends_after (suc n) (b ∷ []) e = ends_after n [] tt
ends_after (suc n) (b ∷ c ∷ rest) e = ends_after n (c ∷ rest) e

-- ---- layout and comments

abbrev NoGap : Front → Type 0
NoGap (fronts.Gap len) = ⊥
NoGap _ = ⊤

no_gap_identifier : (run : List ℕ) → NoGap (identifier run)
no_gap_identifier run = go (nat_lt 64 (length run))
  where
    go : (a : Bool) → NoGap (cond a (fronts.Broken (faults.LongName (length run))) (fronts.Token (keyword_or_name (keyword_of run)) (length run)))
    go true = tt
    go false = tt

no_gap_number : (run : List ℕ) → NoGap (number_run run)
no_gap_number run = go (number_of run)
  where
    literal : (r : Result Literal LiteralFault) → NoGap (literal_or_broken (length run) r)
    literal (Ok l) = tt
    literal (Err e) = tt

    go : (o : Option ℕ) → NoGap (number_or_literal run o)
    go (Some k) = tt
    go None = literal (literal_of run)

no_gap_single : (first : ℕ) (o : Option Mark) → NoGap (mark_or_broken first o)
no_gap_single first (Some m) = tt
no_gap_single first None = tt

no_gap_mark : (first : ℕ) (rest : List ℕ) → NoGap (mark first rest)
no_gap_mark first [] = no_gap_single first (single_mark first)
no_gap_mark first (second ∷ rest) = go (double_mark first second)
  where
    go : (o : Option Mark) → NoGap (mark_or_shorter first o)
    go (Some m) = tt
    go None = no_gap_single first (single_mark first)

token_no_gap : (b : ℕ) (rest : List ℕ) → NoGap (token_of (b ∷ rest))
token_no_gap b rest = go (is_letter b) (is_digit b)
  where
    go : (x y : Bool) → NoGap (cond x (identifier (run_of is_word (b ∷ rest))) (cond y (number_run (run_of is_in_run (b ∷ rest))) (mark b rest)))
    go true y = no_gap_identifier (run_of is_word (b ∷ rest))
    go false true = no_gap_number (run_of is_in_run (b ∷ rest))
    go false false = no_gap_mark b rest

module _ (more : List ℕ) where
  nothing : (inside : Bool) → gap_length inside [] ≡ 0
  nothing true = refl
  nothing false = refl

  -- those that end before a text's end are the same if more follows
  pub gap_same : (inside : Bool) (b : ℕ) (rest : List ℕ) → LastIs b rest → gap_length inside (b ∷ rest) < length (b ∷ rest)
      → gap_length inside (b ∷ (rest ++ more)) ≡ gap_length inside (b ∷ rest)
  gap_same true b [] e h = absurd (let none = nothing (not (b == 10)) in omega (arith, h, none))
  gap_same true b (c ∷ cs) e h = ap (λ (n : ℕ). n + 1) (gap_same (not (b == 10)) c cs e (omega (arith, h)))
  gap_same false b [] e h = absurd (let l : is_layout b ≡ true = subst (λ (x : ℕ). is_layout x ≡ true) (sym e) refl in
      let one : gap_length false (b ∷ []) ≡ 1 = ap (λ (t : Bool). cond t 1 0) l in omega (arith, h, one))
  gap_same false b (c ∷ cs) e h =
      by (b == 47 && c == 47) (is_layout b) (gap_same true c cs e) (gap_same false c cs e) h
    where
      by : (x y : Bool) → (gap_length true (c ∷ cs) < length (c ∷ cs) → gap_length true (c ∷ (cs ++ more)) ≡ gap_length true (c ∷ cs))
          → (gap_length false (c ∷ cs) < length (c ∷ cs) → gap_length false (c ∷ (cs ++ more)) ≡ gap_length false (c ∷ cs))
          → cond x (gap_length true (c ∷ cs) + 1) (cond y (gap_length false (c ∷ cs) + 1) 0) < suc (length (c ∷ cs))
          → cond x (gap_length true (c ∷ (cs ++ more)) + 1) (cond y (gap_length false (c ∷ (cs ++ more)) + 1) 0)
          ≡ cond x (gap_length true (c ∷ cs) + 1) (cond y (gap_length false (c ∷ cs) + 1) 0)
      by true y f g l = ap (λ (n : ℕ). n + 1) (f (omega (arith, l)))
      by false true f g l = ap (λ (n : ℕ). n + 1) (g (omega (arith, l)))
      by false false f g l = refl

  -- ---- tokens

  pub run_same : (test : ℕ → Bool) → test 10 ≡ false → (b : ℕ) (rest : List ℕ) → LastIs b rest → run_of test (b ∷ (rest ++ more)) ≡ run_of test (b ∷ rest)
  run_same test stops b [] e =
      let no : test b ≡ false = ap test e ∙ stops in
      ap (λ (t : Bool). take (cond t (run_length test more + 1) 0) (b ∷ more)) no ∙ ap (λ (t : Bool). take (cond t 1 0) (b ∷ [])) (sym no)
  run_same test stops b (c ∷ cs) e = by (test b) (run_same test stops c cs e)
    where
      by : (t : Bool) → run_of test (c ∷ (cs ++ more)) ≡ run_of test (c ∷ cs)
          → take (cond t (run_length test (c ∷ (cs ++ more)) + 1) 0) (b ∷ c ∷ (cs ++ more)) ≡ take (cond t (run_length test (c ∷ cs) + 1) 0) (b ∷ c ∷ cs)
      by true same =
          let long : run_length test (c ∷ (cs ++ more)) + 1 ≡ suc (run_length test (c ∷ (cs ++ more))) = omega arith in
          let short : run_length test (c ∷ cs) + 1 ≡ suc (run_length test (c ∷ cs)) = omega arith in
          ap (λ (n : ℕ). take n (b ∷ c ∷ (cs ++ more))) long ∙ ap (λ (r : List ℕ). b ∷ r) same ∙ ap (λ (n : ℕ). take n (b ∷ c ∷ cs)) (sym short)
      by false same = refl

  token_same : (b : ℕ) (rest : List ℕ) → LastIs b rest → (b ≡ 10 → ⊥) → token_of (b ∷ (rest ++ more)) ≡ token_of (b ∷ rest)
  token_same b [] e other = absurd (other e)
  token_same b (c ∷ cs) e other =
      by (is_letter b) (is_digit b) (run_same is_word refl b (c ∷ cs) e) (run_same is_in_run refl b (c ∷ cs) e)
    where
      by : (x y : Bool) → run_of is_word (b ∷ c ∷ (cs ++ more)) ≡ run_of is_word (b ∷ c ∷ cs) → run_of is_in_run (b ∷ c ∷ (cs ++ more)) ≡ run_of is_in_run (b ∷ c ∷ cs)
          → cond x (identifier (run_of is_word (b ∷ c ∷ (cs ++ more)))) (cond y (number_run (run_of is_in_run (b ∷ c ∷ (cs ++ more)))) (mark b (c ∷ (cs ++ more))))
          ≡ cond x (identifier (run_of is_word (b ∷ c ∷ cs))) (cond y (number_run (run_of is_in_run (b ∷ c ∷ cs))) (mark b (c ∷ cs)))
      by true y f g = ap identifier f
      by false true f g = ap number_run g
      by false false f g = refl

  front_by : (n : ℕ) (next front : Front) → cond (nat_lt 0 n) (fronts.Gap n) next ≡ front → ((0 < n) × (front ≡ fronts.Gap n)) ⊎ ((n ≡ 0) × (front ≡ next))
  front_by n next front e = by (nat_lt 0 n) refl e
    where
      by : (t : Bool) → nat_lt 0 n ≡ t → cond t (fronts.Gap n) next ≡ front → ((0 < n) × (front ≡ fronts.Gap n)) ⊎ ((n ≡ 0) × (front ≡ next))
      by true is f = inl (ltb-true 0 n is, sym f)
      by false is f = (let low : n ≤ 0 = ltb-false 0 n is in let none : n ≡ 0 = omega (arith, low) in inr (none, sym f))

  no_layout : (b : ℕ) (rest : List ℕ) → gap_length false (b ∷ rest) ≡ 0 → b ≡ 10 → ⊥
  no_layout b [] e is =
      let l : gap_length false (b ∷ []) ≡ 1 = subst (λ (x : ℕ). gap_length false (x ∷ []) ≡ 1) (sym is) refl in
      omega (arith, e, l)
  no_layout b (c ∷ cs) e is =
      let l : gap_length false (b ∷ c ∷ cs) ≡ gap_length false (c ∷ cs) + 1 = subst (λ (x : ℕ). gap_length false (x ∷ c ∷ cs) ≡ gap_length false (c ∷ cs) + 1) (sym is) refl in
      omega (arith, e, l)

  -- a token at the front of a text is there if more follows
  pub token_stays : (b : ℕ) (rest : List ℕ) (kind : TokenKind) (len : ℕ) → LastIs b rest → front_of (b ∷ rest) ≡ fronts.Token kind len
      → front_of (b ∷ (rest ++ more)) ≡ fronts.Token kind len
  token_stays b rest kind len e is = elim (front_by (gap_length false (b ∷ rest)) (token_of (b ∷ rest)) (fronts.Token kind len) is) [
    | inl gap ↦ (let other : fronts.Token kind len ≡ fronts.Gap (gap_length false (b ∷ rest)) = gap.1 in cc)
    | inr found ↦ (
        let none : gap_length false (b ∷ (rest ++ more)) ≡ 0 = gap_same false b rest e (let z = found.0 in omega (arith, z)) ∙ found.0 in
        ap (λ (n : ℕ). cond (nat_lt 0 n) (fronts.Gap n) (token_of (b ∷ (rest ++ more)))) none
        ∙ token_same b rest e (no_layout b rest found.0) ∙ sym found.1
        )
  ]

  -- and so are layout and comments before the text's end
  pub gap_stays : (b : ℕ) (rest : List ℕ) (len : ℕ) → LastIs b rest → len < length (b ∷ rest) → front_of (b ∷ rest) ≡ fronts.Gap len
      → front_of (b ∷ (rest ++ more)) ≡ fronts.Gap len
  gap_stays b rest len e l is = elim (front_by (gap_length false (b ∷ rest)) (token_of (b ∷ rest)) (fronts.Gap len) is) [
    | inl gap ↦ (
        let many : gap_length false (b ∷ rest) ≡ len = cc (gap.1) in
        let same : gap_length false (b ∷ (rest ++ more)) ≡ len = gap_same false b rest e (omega (arith, many, l)) ∙ many in
        let some : 0 < gap_length false (b ∷ (rest ++ more)) = (let p = gap.0 in omega (arith, p, many, same)) in
        let yes : nat_lt 0 (gap_length false (b ∷ (rest ++ more))) ≡ true = lt-ltb 0 (gap_length false (b ∷ (rest ++ more))) some in
        ap (λ (t : Bool). cond t (fronts.Gap (gap_length false (b ∷ (rest ++ more)))) (token_of (b ∷ (rest ++ more)))) yes ∙ ap fronts.Gap same
        )
    | inr found ↦ absurd (never_gap b rest len (sym found.1))
  ]
    where
      never_gap : (b : ℕ) (rest : List ℕ) (len : ℕ) → token_of (b ∷ rest) ≡ fronts.Gap len → ⊥
      never_gap b rest len is = subst NoGap is (token_no_gap b rest)

-- a text with a byte has a front
some_front : (b : ℕ) (rest : List ℕ) → front_of (b ∷ rest) ≡ fronts.End → ⊥
some_front b rest e = let fits = subst (Fits (length (b ∷ rest))) e (fits_front (b ∷ rest)) in omega (arith, fits)

all_dropped : (n : ℕ) (text : List ℕ) → length text ≤ n → drop n text ≡ []
all_dropped n text h = none (drop n text) (omega (arith, length-drop n text, h))
  where
    none : (xs : List ℕ) → length xs ≤ 0 → xs ≡ []
    none [] h = refl
    none (x ∷ xs) h = absurd (omega (arith, h))

-- ---- the tokens up to `end`

abbrev some_end : List Token → Bool
some_end [] = false
some_end (t ∷ ts) = is_end t.kind || some_end ts

none_more : (ts : List Token) (t : Token) → some_end ts ≡ false → is_end t.kind ≡ false → some_end (ts ++ t ∷ []) ≡ false
none_more [] t e f = ap (λ (b : Bool). b || false) f
none_more (x ∷ ts) t e f = by (is_end x.kind) (some_end ts) e (λ g. none_more ts t g f)
  where
    by : (b c : Bool) → (b || c) ≡ false → (c ≡ false → some_end (ts ++ t ∷ []) ≡ false) → (b || some_end (ts ++ t ∷ [])) ≡ false
    by true c g rest = cc g
    by false c g rest = rest g

tokens_of : Result Lexed Refusal → List Token
tokens_of (Ok lexed) = lexed.tokens
tokens_of (Err refusal) = []

same_tokens : (a b : Lexed) → ◌≡◌ {A = Result Lexed Refusal} (Ok a) (Ok b) → some_end a.tokens ≡ some_end b.tokens
unfolding tokens_of
same_tokens a b e = ap (λ (r : Result Lexed Refusal). some_end (tokens_of r)) e

-- where nothing is left, no `end` follows
empty_never : (text : List ℕ) {tokens : List Token} {before : List ℕ} {o : Result Lexed Refusal} (lexed : Lexed) → Lexes tokens before text o → text ≡ [] → o ≡ Ok lexed
    → some_end tokens ≡ false → some_end lexed.tokens ≡ true → ⊥
empty_never text {tokens} {before} lexed (finish e) none is clean ended = let same = same_tokens (record { tokens = tokens; rest = length before }) lexed is in cc
empty_never text lexed (skip len e d) none is clean ended = let over : front_of text ≡ fronts.End = ap front_of none in cc
empty_never text lexed (token kind len e z d) none is clean ended = let over : front_of text ≡ fronts.End = ap front_of none in cc
empty_never text lexed (last kind len e z) none is clean ended = let over : front_of text ≡ fronts.End = ap front_of none in cc
empty_never text lexed (broken number e) none is clean ended = cc

-- What is read of a text that ends with a line feed, up to its first `end`, is read if more follows.
lexes_more : (more text : List ℕ) {tokens : List Token} {before : List ℕ} {o : Result Lexed Refusal} (lexed : Lexed) → Lexes tokens before text o → o ≡ Ok lexed
    → EndsLine text → some_end tokens ≡ false → some_end lexed.tokens ≡ true → Lexes tokens before (text ++ more) (Ok lexed)
lexes_more more [] lexed d is ends clean ended = absurd (empty_never [] lexed d refl is clean ended)
lexes_more more (b ∷ rest) lexed (finish e) is ends clean ended = absurd (some_front b rest e)
lexes_more more (b ∷ rest) {tokens} {before} lexed (skip len e d) is ends clean ended = elim (cases_lt len (length (b ∷ rest))) [
  | inl below ↦ skip len (gap_stays more b rest len ends below e)
      (subst (λ (x : List ℕ). Lexes tokens (before ++ x) (drop len (b ∷ (rest ++ more))) (Ok lexed)) (sym (take-append-le len (b ∷ rest) more (omega (arith, below))))
      (subst (λ (x : List ℕ). Lexes tokens (before ++ take len (b ∷ rest)) x (Ok lexed)) (sym (drop-append-le len (b ∷ rest) more (omega (arith, below))))
      (lexes_more more (drop len (b ∷ rest)) lexed d is (ends_after len (b ∷ rest) ends) clean ended)))
  | inr past ↦ absurd (empty_never (drop len (b ∷ rest)) lexed d (all_dropped len (b ∷ rest) past) is clean ended)
]
lexes_more more (b ∷ rest) {tokens} {before} lexed (token kind len e z d) is ends clean ended =
    let fits : len ≤ length (b ∷ rest) = (token_fits (b ∷ rest) kind len e).1 in
    token kind len (token_stays more b rest kind len ends e) z
    (subst (λ (x : List ℕ). Lexes (tokens ++ token_at before kind len ∷ []) (before ++ x) (drop len (b ∷ (rest ++ more))) (Ok lexed)) (sym (take-append-le len (b ∷ rest) more fits))
    (subst (λ (x : List ℕ). Lexes (tokens ++ token_at before kind len ∷ []) (before ++ take len (b ∷ rest)) x (Ok lexed)) (sym (drop-append-le len (b ∷ rest) more fits))
    (lexes_more more (drop len (b ∷ rest)) lexed d is (ends_after len (b ∷ rest) ends) (none_more tokens (token_at before kind len) clean z) ended)))
lexes_more more (b ∷ rest) {tokens} {before} lexed (last kind len e z) is ends clean ended =
    subst (λ (o : Result Lexed Refusal). Lexes tokens before (b ∷ (rest ++ more)) o) is (last kind len (token_stays more b rest kind len ends e) z)
lexes_more more (b ∷ rest) lexed (broken number e) is ends clean ended = cc

-- ---- a job has an `end`

longer : {A : Type 0} (body ys s tail : List A) → s ≡ ys ++ tail → body ++ s ≡ (body ++ ys) ++ tail
longer {A} body ys s tail e = ap (λ (r : List A). body ++ r) e ∙ sym (append_assoc body ys tail)

has_end : {W B X S : Type 0} (g : Grammar W B X S) (c : ℕ) (way : W) (ys zs : List (Symbol W B)) {s t : List (Symbol W B)} {v w : S} {xs left : List X}
    → Derives g s v xs t w left → s ≡ ys ++ Terminal c way ∷ zs → t ≡ [] → (x : X) × Has x xs × (g.class x ≡ c)
has_end g c way [] zs stay is none = cc
has_end g c way (y ∷ ys) zs stay is none = cc
has_end g c way [] zs (expand body among d) is none = cc
has_end g c way (y ∷ ys) zs (expand {s = s} body among d) is none =
    let same : s ≡ ys ++ Terminal c way ∷ zs = cc is in
    has_end g c way (body ++ ys) zs d (longer body ys s (Terminal c way ∷ zs) same) none
has_end g c way [] zs (read {c = k} {t = x} e d) is none = let same : k ≡ c = cc is in (x, here, e ∙ same)
has_end g c way (y ∷ ys) zs (read {s = s} e d) is none =
    let same : s ≡ ys ++ Terminal c way ∷ zs = cc is in
    let found = has_end g c way ys zs d same none in
    (found.0, there found.1, found.2)
has_end g c way [] zs (build d) is none = cc
has_end g c way (y ∷ ys) zs (build {s = s} d) is none =
    let same : s ≡ ys ++ Terminal c way ∷ zs = cc is in has_end g c way ys zs d same none

abbrev before_end : List Sym
before_end =
    word keywords.Machine ∷ NAME ∷ mark_symbol marks.Semicolon ∷ word keywords.Stages ∷ NUM ∷ mark_symbol marks.Semicolon
    ∷ Action no_decls ∷ Nonterminal DECLS ∷ Action no_blocks ∷ Nonterminal STAGE ∷ Action one_block ∷ Nonterminal STAGES ∷ Nonterminal IMAGE ∷ Nonterminal STALLS ∷ Nonterminal INPUTS ∷ []

job_body : {body : List Sym} → Has body (alternatives rules JOB) → body ≡ before_end ++ word keywords.End ∷ Action make_job ∷ []
job_body here = refl
job_body (there m) = elim m [ ]

job_ends : {v w : State} {xs : List Lexeme} → Derives language (Nonterminal JOB ∷ []) v xs [] w [] → (x : Lexeme) × Has x xs × (kind_class x.kind ≡ 27)
job_ends (expand body among d) = has_end language 27 drops before_end (Action make_job ∷ []) d (ap (λ (b : List Sym). b ++ []) (job_body among)) refl

end_keyword : (k : Keyword) → keyword_class k ≡ 27 → is_end (kinds.Keyword k) ≡ true
end_keyword keywords.End e = refl
end_keyword k e = absurd (omega (arith, e))

end_mark : (m : Mark) → mark_class m ≡ 27 → is_end (kinds.Mark m) ≡ true
end_mark m e = absurd (high m e)
  where
    high : (m : Mark) → mark_class m ≡ 27 → ⊥
    high marks.Semicolon e = omega (arith, e)
    high k e = omega (arith, e)

end_kind : (k : TokenKind) → kind_class k ≡ 27 → is_end k ≡ true
end_kind kinds.Ident e = absurd (omega (arith, e))
end_kind (kinds.Number n) e = absurd (omega (arith, e))
end_kind (kinds.Literal l) e = absurd (omega (arith, e))
end_kind (kinds.Keyword k) e = end_keyword k e
end_kind (kinds.Mark m) e = end_mark m e

has_token : (text : List ℕ) (tokens : List Token) {x : Lexeme} → Has x (lexemes text tokens) → kind_class x.kind ≡ 27 → some_end tokens ≡ true
has_token text [] h c = elim h [ ]
has_token text (t ∷ ts) here c = ap (λ (b : Bool). b || some_end ts) (end_kind t.kind c)
has_token text (t ∷ ts) (there h) c = ap (λ (b : Bool). is_end t.kind || b) (has_token text ts h c) ∙ or_true (is_end t.kind)
  where
    or_true : (b : Bool) → (b || true) ≡ true
    or_true true = refl
    or_true false = refl

-- the bytes of its tokens
lexemes_more : (text more : List ℕ) (tokens : List Token) → All (StandsIn text) tokens → lexemes (text ++ more) tokens ≡ lexemes text tokens
lexemes_more text more [] all = refl
lexemes_more text more (t ∷ ts) all =
    let within = (all 0 t (omega arith)).within in
    let same : spelled (text ++ more) t ≡ spelled text t =
    ap (take t.len) (drop-append-le t.start text more (omega (arith, within)))
    ∙ take-append-le t.len (drop t.start text) more (omega (arith, within, length-drop t.start text)) in
    ap₂ (λ (bytes : List ℕ) (rest : List Lexeme). record { kind = t.kind; place = t.place; bytes = bytes } ∷ rest) same
    (lexemes_more text more ts (λ i d l. all (suc i) d (omega (arith, l))))

-- THE HEAD: a job's text that ends with a line feed is the head of itself followed by more; what follows its `end` is layout and comments.
pub head_of_both : (text more : List ℕ) (job : Job) → EndsLine text → JudgesText text (Ok job)
    → (rest : ℕ) × JudgesHeadText (text ++ more) (Ok (job, rest)) × (rest ≤ length text) × (tail_of text rest ≡ None)
head_of_both text more job ends (accepted describes none) =
    let lexed : Lexed = describes.lexed in
    let stands = tokens_stand text lexed describes.sentence.tokens in
    let found = job_ends describes.sentence.tree in
    let yes : some_end lexed.tokens ≡ true = has_token text lexed.tokens found.1 found.2 in (
      lexed.rest,
      head_accepted {lexed = lexed} (record {
        tokens = lexes_more more text lexed describes.sentence.tokens refl ends refl yes;
        tree = subst (λ (xs : List Lexeme). Derives language (Nonterminal JOB ∷ []) (at [] []) xs [] (at [] (job_value job ∷ [])) []) (sym (lexemes_more text more lexed.tokens stands.0)) describes.sentence.tree;
      }) none,
      stands.1,
      describes.ends,
    )

-- the text after the `end` is one gap
pub tail_is_gap : (text : List ℕ) (from : ℕ) → from ≤ length text → tail_of text from ≡ None → gap_length false (drop from text) ≡ length (drop from text)
tail_is_gap text from within none = by (nat_lt (from + gap_length false (drop from text)) (length text)) refl none
  where
    by : (t : Bool) → nat_lt (from + gap_length false (drop from text)) (length text) ≡ t → cond t (Some (place_after (take (from + gap_length false (drop from text)) text))) None ≡ None
        → gap_length false (drop from text) ≡ length (drop from text)
    by true e some = cc some
    by false e some =
        let past : length text ≤ from + gap_length false (drop from text) = ltb-false (from + gap_length false (drop from text)) (length text) e in
        let most = gap_within false (drop from text) in
        let many = length-drop from text in
        omega (arith, past, most, many, within)
