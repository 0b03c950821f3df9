-- The names in the tree of a text are names: each comes from an identifier.
use Rattle.std.proofs.Common.{◌≡◌, ◌∙◌, ℕ, suc, List, [], ◌∷◌, ◌++◌, Bool, true, false, All, Ok, refl, arith}
use Rattle.std.{proofs.lemmas.Bool.and_parts, proofs.lemmas.Bool.eqb-true, proofs.lemmas.Bool.cond_both, specs.Prelude.◌==◌, specs.Prelude.◌&&◌}
use Rattle.kp_ast.specs.{Name.IsName, declared.tree.Decl.Decl, declared.tree.Job.Job}
use Rattle.kp_ast.specs.declared.tree.Decl.TheVariants as decls
use Rattle.kp_grammar.specs.Grammar.{Symbol, Terminal, Rules, alternatives, Has, here, there, Derives, stay, expand, read, build}
use Rattle.kp_lex.specs.{Text.HasOutcome, declared.token.Token.Token, declared.token.Lexed.Lexed, declared.token.Keyword.Keyword, declared.token.Mark.Mark}
use Rattle.kp_lex.specs.declared.token.TokenKind.{TokenKind}
use Rattle.kp_parse_grammar.specs.Tokens.{Lexeme, IsSpelled, IDENTIFIER, keyword_class, mark_class, kind_class, lexemes}
use Rattle.kp_parse_grammar.specs.Language.{Value, State, Way, Step, language, values_read, values_built}
use Rattle.kp_lex.specs.declared.token.Keyword.TheVariants as keywords
use Rattle.kp_lex.specs.declared.token.Mark.TheVariants as marks
use Rattle.kp_lex.specs.declared.token.TokenKind.TheVariants as kinds
use Rattle.kp_parse.{specs.Sentence.IsTree, proofs.Text.spelled_all}
use Rattle.kp_parse_grammar.specs.Language as lang

-- ---- what is built

abbrev DeclNamed : Decl → Type 0
DeclNamed (decls.Reg n width start) = IsName n.name
DeclNamed _ = Unit {0}

-- the names of the registers among declarations are names
abbrev pub RegistersNamed : List Decl → Type 0
RegistersNamed [] = Unit {0}
RegistersNamed (d ∷ ds) = DeclNamed d × RegistersNamed ds

pub record JobNamed (job : Job) : Type 0 where
  pub name : IsName job.name.name
  pub registers : RegistersNamed job.decls

abbrev Fine : Value → Type 0
Fine (lang.named n) = IsName n.name
Fine (lang.param p) = IsName p.name.name
Fine (lang.decl d) = DeclNamed d
Fine (lang.decls ds) = RegistersNamed ds
Fine (lang.job j) = JobNamed j
Fine _ = Unit {0}

abbrev AllFine : List Value → Type 0
AllFine [] = Unit {0}
AllFine (v ∷ vs) = Fine v × AllFine vs

more_decls : (ds : List Decl) (d : Decl) → RegistersNamed ds → DeclNamed d → RegistersNamed (ds ++ d ∷ [])
more_decls [] d h k = (k, tt)
more_decls (x ∷ ds) d h k = (h.0, more_decls ds d h.1 k)

built_fine : (a : Step) (vs : List Value) → AllFine vs → AllFine (values_built a vs)
built_fine lang.no_expr vs h = (tt, h)
built_fine lang.some_expr (lang.expr e ∷ vs) h = (tt, h.1)
built_fine lang.no_hedge vs h = (tt, (tt, h))
built_fine lang.some_when (lang.expr e ∷ vs) h = (tt, (tt, h.1))
built_fine lang.some_guess (lang.expr e ∷ vs) h = (tt, (tt, h.1))
built_fine lang.no_name vs h = (tt, h)
built_fine lang.some_name (lang.named n ∷ vs) h = (tt, h.1)
built_fine lang.no_number vs h = (tt, h)
built_fine lang.some_number (lang.number n ∷ vs) h = (tt, h.1)
built_fine lang.no_exprs vs h = (tt, h)
built_fine lang.one_expr (lang.expr e ∷ lang.exprs es ∷ vs) h = (tt, h.1.1)
built_fine lang.make_choice (lang.expr b ∷ lang.expr a ∷ lang.place p ∷ lang.expr test ∷ vs) h = (tt, h.1.1.1.1)
built_fine (lang.make_binary op) (lang.expr b ∷ lang.place p ∷ lang.expr a ∷ vs) h = (tt, h.1.1.1)
built_fine lang.make_not (lang.expr e ∷ lang.place p ∷ vs) h = (tt, h.1.1)
built_fine lang.same_bit (lang.number hi ∷ vs) h = (tt, (tt, h.1))
built_fine lang.make_slice (lang.number lo ∷ lang.number hi ∷ lang.place p ∷ lang.expr e ∷ vs) h = (tt, h.1.1.1.1)
built_fine lang.make_literal (lang.literal l ∷ vs) h = (tt, h.1)
built_fine lang.make_name (lang.named n ∷ vs) h = (tt, h.1)
built_fine lang.make_call (lang.exprs es ∷ lang.named n ∷ vs) h = (tt, h.1.1)
built_fine lang.make_concat (lang.exprs es ∷ lang.place p ∷ vs) h = (tt, h.1.1)
built_fine lang.make_zext (lang.number w ∷ lang.expr e ∷ lang.place p ∷ vs) h = (tt, h.1.1.1)
built_fine lang.make_sext (lang.number w ∷ lang.expr e ∷ lang.place p ∷ vs) h = (tt, h.1.1.1)
built_fine lang.make_param (lang.number w ∷ lang.named n ∷ vs) h = (h.1.0, h.1.1)
built_fine lang.no_params vs h = (tt, h)
built_fine lang.one_param (lang.param p ∷ lang.params ps ∷ vs) h = (tt, h.1.1)
built_fine lang.make_reg (lang.literal l ∷ lang.param p ∷ vs) h = (h.1.0, h.1.1)
built_fine lang.make_file (lang.number a ∷ lang.param p ∷ vs) h = (tt, h.1.1)
built_fine lang.make_pipe (lang.param p ∷ vs) h = (tt, h.1)
built_fine lang.make_result (lang.number s ∷ lang.perhaps_named g ∷ lang.perhaps_named a ∷ lang.named t ∷ lang.param p ∷ vs) h = (tt, h.1.1.1.1.1)
built_fine lang.make_hint (lang.literal l ∷ lang.param p ∷ vs) h = (tt, h.1.1)
built_fine lang.make_sample (lang.number s ∷ lang.param p ∷ vs) h = (tt, h.1.1)
built_fine lang.make_fn (lang.expr e ∷ lang.number w ∷ lang.params ps ∷ lang.named n ∷ vs) h = (tt, h.1.1.1.1)
built_fine lang.no_decls vs h = (tt, h)
built_fine lang.one_decl (lang.decl d ∷ lang.decls ds ∷ vs) h = (more_decls ds d h.1.0 h.0, h.1.1)
built_fine lang.make_read (lang.perhaps_expr g ∷ lang.perhaps_expr w ∷ lang.perhaps_expr a ∷ lang.named t ∷ lang.named n ∷ lang.place p ∷ vs) h = (tt, h.1.1.1.1.1.1)
built_fine lang.make_let (lang.expr e ∷ lang.named n ∷ lang.place p ∷ vs) h = (tt, h.1.1.1)
built_fine lang.make_put (lang.expr e ∷ lang.named n ∷ lang.place p ∷ vs) h = (tt, h.1.1.1)
built_fine lang.make_set (lang.perhaps_expr w ∷ lang.expr e ∷ lang.named n ∷ lang.place p ∷ vs) h = (tt, h.1.1.1.1)
built_fine lang.make_aim (lang.expr e ∷ lang.named n ∷ lang.place p ∷ vs) h = (tt, h.1.1.1)
built_fine lang.no_stmts vs h = (tt, h)
built_fine lang.one_stmt (lang.stmt x ∷ lang.stmts xs ∷ vs) h = (tt, h.1.1)
built_fine lang.make_block (lang.stmts xs ∷ lang.number k ∷ vs) h = (tt, h.1.1)
built_fine lang.no_blocks vs h = (tt, h)
built_fine lang.one_block (lang.block b ∷ lang.blocks bs ∷ vs) h = (tt, h.1.1)
built_fine lang.no_literals vs h = (tt, h)
built_fine lang.one_literal (lang.literal l ∷ lang.literals ls ∷ vs) h = (tt, h.1.1)
built_fine lang.make_image (lang.literals ls ∷ lang.perhaps_number a ∷ lang.named n ∷ vs) h = (tt, h.1.1.1)
built_fine lang.no_images vs h = (tt, h)
built_fine lang.one_image (lang.image i ∷ lang.images is ∷ vs) h = (tt, h.1.1)
built_fine lang.no_image_section vs h = (tt, h)
built_fine lang.image_section (lang.images is ∷ vs) h = (tt, h.1)
built_fine lang.make_stall (lang.perhaps_number p ∷ lang.number b ∷ lang.number a ∷ lang.number s ∷ vs) h = (tt, h.1.1.1.1)
built_fine lang.no_stalls vs h = (tt, h)
built_fine lang.one_stall (lang.stall s ∷ lang.stalls ss ∷ vs) h = (tt, h.1.1)
built_fine lang.no_stall_section vs h = (tt, h)
built_fine lang.stall_section (lang.stalls ss ∷ vs) h = (tt, h.1)
built_fine lang.make_input (lang.perhaps_number p ∷ lang.number b ∷ lang.number a ∷ lang.literal l ∷ lang.named n ∷ vs) h = (tt, h.1.1.1.1.1)
built_fine lang.no_inputs vs h = (tt, h)
built_fine lang.one_input (lang.input i ∷ lang.inputs is ∷ vs) h = (tt, h.1.1)
built_fine lang.no_input_section vs h = (tt, h)
built_fine lang.input_section (lang.inputs is ∷ vs) h = (tt, h.1)
built_fine lang.make_job (lang.perhaps_inputs ii ∷ lang.perhaps_stalls st ∷ lang.perhaps_images im ∷ lang.blocks bs ∷ lang.decls ds ∷ lang.number k ∷ lang.named n ∷ vs) h =
    (record { name = h.1.1.1.1.1.1.0; registers = h.1.1.1.1.0 }, h.1.1.1.1.1.1.1)
built_fine _ vs h = h

-- ---- what is read

abbrev IsNamed : Lexeme → Type 0
IsNamed t = t.kind ≡ kinds.Ident → IsName t.bytes

abbrev AllNamed : List Lexeme → Type 0
AllNamed [] = Unit {0}
AllNamed (t ∷ ts) = IsNamed t × AllNamed ts

all_named : (text : List ℕ) (tokens : List Token) → All (IsSpelled text) tokens → AllNamed (lexemes text tokens)
all_named text [] h = tt
all_named text (t ∷ ts) h = ((h 0 t (omega arith)).name, all_named text ts (λ i d l. h (suc i) d (omega (arith, l))))

-- only identifiers are read as names
abbrev is_fine : Symbol Way Step → Bool
is_fine (Terminal c lang.as_name) = c == IDENTIFIER
is_fine _ = true

abbrev all_fine : List (Symbol Way Step) → Bool
all_fine [] = true
all_fine (x ∷ xs) = is_fine x && all_fine xs

abbrev each_fine : List (List (Symbol Way Step)) → Bool
each_fine [] = true
each_fine (b ∷ bs) = all_fine b && each_fine bs

abbrev rules_fine : Rules Way Step → Bool
rules_fine [] = true
rules_fine (r ∷ rs) = each_fine r.1 && rules_fine rs

both : (a b : Bool) → a ≡ true → b ≡ true → (a && b) ≡ true
both true b e f = f
both false b e f = cc

alternatives_fine : (rs : Rules Way Step) (n : ℕ) → rules_fine rs ≡ true → each_fine (alternatives rs n) ≡ true
alternatives_fine [] n h = refl
alternatives_fine (r ∷ rs) n h =
    let p = and_parts (each_fine r.1) (rules_fine rs) h in
    cond_both (r.0 == n) r.1 (alternatives rs n) (λ bs. each_fine bs ≡ true) (λ y. p.0) (λ y. alternatives_fine rs n p.1)

body_fine : (b : List (Symbol Way Step)) (bs : List (List (Symbol Way Step))) → Has b bs → each_fine bs ≡ true → all_fine b ≡ true
body_fine b [] k h = elim k [ ]
body_fine b (x ∷ bs) here h = (and_parts (all_fine b) (each_fine bs) h).0
body_fine b (x ∷ bs) (there k) h = body_fine b bs k (and_parts (all_fine x) (each_fine bs) h).1

front_fine : (b s : List (Symbol Way Step)) → all_fine b ≡ true → all_fine s ≡ true → all_fine (b ++ s) ≡ true
front_fine [] s h k = k
front_fine (x ∷ b) s h k =
    let p = and_parts (is_fine x) (all_fine b) h in
    both (is_fine x) (all_fine (b ++ s)) p.0 (front_fine b s p.1 k)

language_fine : rules_fine language.rules ≡ true
language_fine = refl

is_identifier : (k : TokenKind) → kind_class k ≡ IDENTIFIER → k ≡ kinds.Ident
is_identifier kinds.Ident e = refl
is_identifier (kinds.Number n) e = cc
is_identifier (kinds.Literal l) e = cc
is_identifier (kinds.Keyword k) e = absurd (no_keyword k e)
  where
    no_keyword : (k : Keyword) → keyword_class k ≡ IDENTIFIER → ⊥
    no_keyword keywords.Machine e = omega (arith, e)
    no_keyword keywords.Stages e = omega (arith, e)
    no_keyword _ e = omega (arith, e)
is_identifier (kinds.Mark m) e = absurd (no_mark m e)
  where
    no_mark : (m : Mark) → mark_class m ≡ IDENTIFIER → ⊥
    no_mark marks.Semicolon e = omega (arith, e)
    no_mark _ e = omega (arith, e)

read_fine : (c : ℕ) (way : Way) (t : Lexeme) (vs : List Value) → kind_class t.kind ≡ c → is_fine (Terminal c way) ≡ true → IsNamed t → AllFine vs → AllFine (values_read way t vs)
read_fine c lang.as_name t vs e k n h = (n (is_identifier t.kind (e ∙ eqb-true c IDENTIFIER k)), h)
read_fine c lang.dropped t vs e k n h = h
read_fine c lang.opens t vs e k n h = h
read_fine c lang.closes t vs e k n h = h
read_fine c lang.separates t vs e k n h = h
read_fine c _ t vs e k n h = (tt, h)

derived_fine : {s s' : List (Symbol Way Step)} {v v' : State} {ts left : List Lexeme} → Derives language s v ts s' v' left → all_fine s ≡ true → AllNamed ts
    → AllFine v.values → AllFine v'.values
derived_fine stay f n h = h
derived_fine (expand {n = m} {s = s} body b d) f n h =
    derived_fine d (front_fine body s (body_fine body (alternatives language.rules m) b (alternatives_fine language.rules m language_fine)) f) n h
derived_fine (read {c = c} {way = way} {t = t} {s = s} {v = v} e d) f n h =
    let p = and_parts (is_fine (Terminal c way)) (all_fine s) f in
    derived_fine d p.1 n.1 (read_fine c way t v.values e p.0 n.0 h)
derived_fine (build {a = a} {v = v} d) f n h = derived_fine d f n (built_fine a v.values h)

-- the names of a job of a text
pub job_named : (text : List ℕ) (lexed : Lexed) (job : Job) → HasOutcome text (Ok lexed) → IsTree text lexed.tokens job → JobNamed job
job_named text lexed job outcome tree = (derived_fine tree refl (all_named text lexed.tokens (spelled_all text lexed outcome)) tt).0
