-- The alternatives of the names of the language, and the tokens that select them; and what the answers on readers cite beside them.
pub use Rattle.std.proofs.{Common.arith, Common.refl, Common.sym, Common.◌∙◌, lemmas.List.length_push}
pub use Rattle.kp_grammar.specs.Machine.{make}
pub use Rattle.kp_parse_grammar.proofs.Steps.{by_dropped, by_placed, one, exits}
pub use Rattle.kp_parse_grammar.proofs.Picks.{decls_1, decls_else, stmts_1, stmts_else}
pub use Rattle.kp_parse.proofs.Parts.{tailed, optional, alone}
use Rattle.std.proofs.Common.{ℕ, ◌≡◌, ◌==◌, [], ◌∷◌, List, drop, true, false, ap}
use Rattle.std.proofs.lemmas.Bool.{eqb-true}
use Rattle.kp_base.specs.declared.place.Place.{Place}
use Rattle.kp_grammar.specs.{Grammar.Nonterminal, Grammar.Action, Machine.Outcome, Machine.look, Machine.goes}
use Rattle.kp_lex.specs.declared.token.Keyword.TheVariants as keywords
use Rattle.kp_lex.specs.declared.token.Mark.TheVariants as marks
use Rattle.kp_parse_grammar.specs.Language.{Sym, State, Step, language, word, mark, placed, NAME, NUM, LIT, ADDRESS, BINDING, DECL, ENABLE, ENTRIES, ENTRY, HEDGE, IMAGE, INDEX, INPUTS, JOB, LITS, NUMBERED, PAR, PARS, SPAN, SPANS, STAGE, STAGES, STALLS, STEP, STMT, WHEN, WHOLE, WORD, WORDS, DECLS, STMTS, image_section, input_section, make_aim, make_block, make_file, make_fn, make_hint, make_image, make_input, make_job, make_let, make_param, make_pipe, make_put, make_read, make_reg, make_result, make_sample, make_set, make_stall, no_blocks, no_decls, no_expr, no_hedge, no_image_section, no_images, no_input_section, no_inputs, no_literals, no_name, no_number, no_params, no_stall_section, no_stalls, no_stmts, one_block, one_image, one_input, one_literal, one_param, one_stall, some_expr, some_guess, some_name, some_number, some_when, stall_section}
use Rattle.kp_parse_grammar.specs.{Tokens.Lexeme, Tokens.IDENTIFIER, Tokens.NUMBER, Tokens.keyword_class, Tokens.mark_class, Reading.Goes, Reading.Finds}
use Rattle.kp_parse_grammar.proofs.Picks.{goes_at, goes_past, goes_by, other}

abbrev N : ℕ → Sym
N n = Nonterminal n

abbrev A : Step → Sym
A a = Action a

-- a token of a class isn't the end of the text
pub isnt_end : (k c : ℕ) → true ≡ (k == c) → false ≡ (c == 0) → false ≡ (k == 0)
isnt_end k c h e = e ∙ ap (λ (n : ℕ). n == 0) (sym (eqb-true k c (sym h)))

-- The alternative that the next token selects, or the last one,
module _ {s : List Sym} {v : State} {ts : List Lexeme} {o : Outcome State} where
  pub job_is : Goes (word keywords.Machine ∷ NAME ∷ mark marks.Semicolon ∷ word keywords.Stages ∷ NUM ∷ mark marks.Semicolon ∷ A no_decls ∷ N DECLS ∷ A no_blocks ∷ N STAGE ∷ A one_block ∷ N STAGES ∷ N IMAGE ∷ N STALLS ∷ N INPUTS ∷ word keywords.End ∷ A make_job ∷ s) v ts o → Goes (N JOB ∷ s) v ts o
  job_is l = goes (word keywords.Machine ∷ NAME ∷ mark marks.Semicolon ∷ word keywords.Stages ∷ NUM ∷ mark marks.Semicolon ∷ A no_decls ∷ N DECLS ∷ A no_blocks ∷ N STAGE ∷ A one_block ∷ N STAGES ∷ N IMAGE ∷ N STALLS ∷ N INPUTS ∷ word keywords.End ∷ A make_job ∷ []) refl l

  pub decl_reg : true ≡ (look language ts == keyword_class keywords.Reg)
      → Goes (word keywords.Reg ∷ N PAR ∷ mark marks.Equals ∷ LIT ∷ mark marks.Semicolon ∷ A make_reg ∷ s) v ts o → Goes (N DECL ∷ s) v ts o
  decl_reg h l = goes_at (keyword_class keywords.Reg) h refl l

  pub decl_file : true ≡ (look language ts == keyword_class keywords.File)
      → Goes (word keywords.File ∷ N PAR ∷ mark marks.OpenBracket ∷ NUM ∷ mark marks.CloseBracket ∷ mark marks.Semicolon ∷ A make_file ∷ s) v ts o → Goes (N DECL ∷ s) v ts o
  decl_file h l = goes_at (keyword_class keywords.File) h refl l

  pub decl_pipe : true ≡ (look language ts == keyword_class keywords.Pipe)
      → Goes (word keywords.Pipe ∷ N PAR ∷ mark marks.Semicolon ∷ A make_pipe ∷ s) v ts o → Goes (N DECL ∷ s) v ts o
  decl_pipe h l = goes_at (keyword_class keywords.Pipe) h refl l

  pub decl_result : true ≡ (look language ts == keyword_class keywords.Result)
      → Goes (word keywords.Result ∷ N PAR ∷ mark marks.Arrow ∷ NAME ∷ N INDEX ∷ N ENABLE ∷ word keywords.At ∷ NUM ∷ mark marks.Semicolon ∷ A make_result ∷ s) v ts o → Goes (N DECL ∷ s) v ts o
  decl_result h l = goes_at (keyword_class keywords.Result) h refl l

  pub decl_hint : true ≡ (look language ts == keyword_class keywords.Hint)
      → Goes (word keywords.Hint ∷ N PAR ∷ mark marks.Equals ∷ LIT ∷ mark marks.Semicolon ∷ A make_hint ∷ s) v ts o → Goes (N DECL ∷ s) v ts o
  decl_hint h l = goes_at (keyword_class keywords.Hint) h refl l

  pub decl_sample : true ≡ (look language ts == keyword_class keywords.Sample)
      → Goes (word keywords.Sample ∷ N PAR ∷ word keywords.At ∷ NUM ∷ mark marks.Semicolon ∷ A make_sample ∷ s) v ts o → Goes (N DECL ∷ s) v ts o
  decl_sample h l = goes_at (keyword_class keywords.Sample) h refl l

  pub decl_fn : false ≡ (look language ts == keyword_class keywords.Reg) → false ≡ (look language ts == keyword_class keywords.File) → false ≡ (look language ts == keyword_class keywords.Pipe)
      → false ≡ (look language ts == keyword_class keywords.Result) → false ≡ (look language ts == keyword_class keywords.Hint) → false ≡ (look language ts == keyword_class keywords.Sample)
      → Goes (word keywords.Fn ∷ NAME ∷ mark marks.OpenParenthesis ∷ A no_params ∷ N PAR ∷ A one_param ∷ N PARS ∷ mark marks.CloseParenthesis ∷ mark marks.Colon ∷ NUM ∷ mark marks.Equals ∷ N WHOLE ∷ mark marks.Semicolon ∷ A make_fn ∷ s) v ts o → Goes (N DECL ∷ s) v ts o
  decl_fn a b d e f g l = goes (word keywords.Fn ∷ NAME ∷ mark marks.OpenParenthesis ∷ A no_params ∷ N PAR ∷ A one_param ∷ N PARS ∷ mark marks.CloseParenthesis ∷ mark marks.Colon ∷ NUM ∷ mark marks.Equals ∷ N WHOLE ∷ mark marks.Semicolon ∷ A make_fn ∷ []) (other _ _ _ _ a (other _ _ _ _ b (other _ _ _ _ d (other _ _ _ _ e (other _ _ _ _ f (other _ _ _ _ g refl)))))) l

  pub index_else : false ≡ (look language ts == mark_class marks.OpenBracket) → Goes (A no_name ∷ s) v ts o → Goes (N INDEX ∷ s) v ts o
  index_else h l = goes_past (mark_class marks.OpenBracket) _ (A no_name ∷ []) h refl l

  pub enable_else : false ≡ (look language ts == keyword_class keywords.When) → Goes (A no_name ∷ s) v ts o → Goes (N ENABLE ∷ s) v ts o
  enable_else h l = goes_past (keyword_class keywords.When) _ (A no_name ∷ []) h refl l

  pub par_is : Goes (NAME ∷ mark marks.Colon ∷ NUM ∷ A make_param ∷ s) v ts o → Goes (N PAR ∷ s) v ts o
  par_is l = goes (NAME ∷ mark marks.Colon ∷ NUM ∷ A make_param ∷ []) refl l

  pub pars_else : false ≡ (look language ts == mark_class marks.Comma) → Goes s v ts o → Goes (N PARS ∷ s) v ts o
  pars_else h l = goes_past (mark_class marks.Comma) _ ([]) h refl l

  pub stage_is : Goes (word keywords.Stage ∷ NUM ∷ mark marks.OpenBrace ∷ A no_stmts ∷ N STMTS ∷ mark marks.CloseBrace ∷ A make_block ∷ s) v ts o → Goes (N STAGE ∷ s) v ts o
  stage_is l = goes (word keywords.Stage ∷ NUM ∷ mark marks.OpenBrace ∷ A no_stmts ∷ N STMTS ∷ mark marks.CloseBrace ∷ A make_block ∷ []) refl l

  pub stages_1 : true ≡ (look language ts == keyword_class keywords.Stage)
      → Goes (N STAGE ∷ A one_block ∷ N STAGES ∷ s) v ts o → Goes (N STAGES ∷ s) v ts o
  stages_1 h l = goes_at (keyword_class keywords.Stage) h refl l

  pub stages_else : false ≡ (look language ts == keyword_class keywords.Stage) → Goes s v ts o → Goes (N STAGES ∷ s) v ts o
  stages_else h l = goes_past (keyword_class keywords.Stage) _ ([]) h refl l

  pub stmt_read : true ≡ (look language ts == keyword_class keywords.Read)
      → Goes (placed keywords.Read ∷ NAME ∷ mark marks.Equals ∷ NAME ∷ N ADDRESS ∷ N HEDGE ∷ mark marks.Semicolon ∷ A make_read ∷ s) v ts o → Goes (N STMT ∷ s) v ts o
  stmt_read h l = goes_at (keyword_class keywords.Read) h refl l

  pub stmt_let : true ≡ (look language ts == keyword_class keywords.Let)
      → Goes (placed keywords.Let ∷ N BINDING ∷ mark marks.Semicolon ∷ A make_let ∷ s) v ts o → Goes (N STMT ∷ s) v ts o
  stmt_let h l = goes_at (keyword_class keywords.Let) h refl l

  pub stmt_put : true ≡ (look language ts == keyword_class keywords.Put)
      → Goes (placed keywords.Put ∷ N BINDING ∷ mark marks.Semicolon ∷ A make_put ∷ s) v ts o → Goes (N STMT ∷ s) v ts o
  stmt_put h l = goes_at (keyword_class keywords.Put) h refl l

  pub stmt_set : true ≡ (look language ts == keyword_class keywords.Set)
      → Goes (placed keywords.Set ∷ N BINDING ∷ N WHEN ∷ mark marks.Semicolon ∷ A make_set ∷ s) v ts o → Goes (N STMT ∷ s) v ts o
  stmt_set h l = goes_at (keyword_class keywords.Set) h refl l

  pub stmt_aim : false ≡ (look language ts == keyword_class keywords.Read) → false ≡ (look language ts == keyword_class keywords.Let) → false ≡ (look language ts == keyword_class keywords.Put) → false ≡ (look language ts == keyword_class keywords.Set)
      → Goes (placed keywords.Aim ∷ N BINDING ∷ mark marks.Semicolon ∷ A make_aim ∷ s) v ts o → Goes (N STMT ∷ s) v ts o
  stmt_aim a b d e l = goes (placed keywords.Aim ∷ N BINDING ∷ mark marks.Semicolon ∷ A make_aim ∷ []) (other _ _ _ _ a (other _ _ _ _ b (other _ _ _ _ d (other _ _ _ _ e refl)))) l

  pub binding_is : Goes (NAME ∷ mark marks.Equals ∷ N WHOLE ∷ s) v ts o → Goes (N BINDING ∷ s) v ts o
  binding_is l = goes (NAME ∷ mark marks.Equals ∷ N WHOLE ∷ []) refl l

  pub address_else : false ≡ (look language ts == mark_class marks.OpenBracket) → Goes (A no_expr ∷ s) v ts o → Goes (N ADDRESS ∷ s) v ts o
  address_else h l = goes_past (mark_class marks.OpenBracket) _ (A no_expr ∷ []) h refl l

  pub hedge_when : true ≡ (look language ts == keyword_class keywords.When)
      → Goes (word keywords.When ∷ N WHOLE ∷ A some_when ∷ s) v ts o → Goes (N HEDGE ∷ s) v ts o
  hedge_when h l = goes_at (keyword_class keywords.When) h refl l

  pub hedge_else : false ≡ (look language ts == keyword_class keywords.When) → false ≡ (look language ts == keyword_class keywords.Guess) → Goes (A no_hedge ∷ s) v ts o → Goes (N HEDGE ∷ s) v ts o
  hedge_else a b l = goes (A no_hedge ∷ []) (other _ _ _ _ a (other _ _ _ _ b refl)) l

  pub when_else : false ≡ (look language ts == keyword_class keywords.When) → Goes (A no_expr ∷ s) v ts o → Goes (N WHEN ∷ s) v ts o
  when_else h l = goes_past (keyword_class keywords.When) _ (A no_expr ∷ []) h refl l

  pub image_else : false ≡ (look language ts == keyword_class keywords.Image) → Goes (A no_image_section ∷ s) v ts o → Goes (N IMAGE ∷ s) v ts o
  image_else h l = goes_past (keyword_class keywords.Image) _ (A no_image_section ∷ []) h refl l

  pub words_1 : true ≡ (look language ts == IDENTIFIER)
      → Goes (N WORD ∷ A one_image ∷ N WORDS ∷ s) v ts o → Goes (N WORDS ∷ s) v ts o
  words_1 h l = goes_at (IDENTIFIER) h refl l

  pub words_else : false ≡ (look language ts == IDENTIFIER) → Goes s v ts o → Goes (N WORDS ∷ s) v ts o
  words_else h l = goes_past (IDENTIFIER) _ ([]) h refl l

  pub word_is : Goes (NAME ∷ N NUMBERED ∷ mark marks.Equals ∷ A no_literals ∷ LIT ∷ A one_literal ∷ N LITS ∷ mark marks.Semicolon ∷ A make_image ∷ s) v ts o → Goes (N WORD ∷ s) v ts o
  word_is l = goes (NAME ∷ N NUMBERED ∷ mark marks.Equals ∷ A no_literals ∷ LIT ∷ A one_literal ∷ N LITS ∷ mark marks.Semicolon ∷ A make_image ∷ []) refl l

  pub numbered_else : false ≡ (look language ts == mark_class marks.OpenBracket) → Goes (A no_number ∷ s) v ts o → Goes (N NUMBERED ∷ s) v ts o
  numbered_else h l = goes_past (mark_class marks.OpenBracket) _ (A no_number ∷ []) h refl l

  pub lits_else : false ≡ (look language ts == mark_class marks.Comma) → Goes s v ts o → Goes (N LITS ∷ s) v ts o
  lits_else h l = goes_past (mark_class marks.Comma) _ ([]) h refl l

  pub stalls_else : false ≡ (look language ts == keyword_class keywords.Stalls) → Goes (A no_stall_section ∷ s) v ts o → Goes (N STALLS ∷ s) v ts o
  stalls_else h l = goes_past (keyword_class keywords.Stalls) _ (A no_stall_section ∷ []) h refl l

  pub spans_1 : true ≡ (look language ts == NUMBER)
      → Goes (N SPAN ∷ A one_stall ∷ N SPANS ∷ s) v ts o → Goes (N SPANS ∷ s) v ts o
  spans_1 h l = goes_at (NUMBER) h refl l

  pub spans_else : false ≡ (look language ts == NUMBER) → Goes s v ts o → Goes (N SPANS ∷ s) v ts o
  spans_else h l = goes_past (NUMBER) _ ([]) h refl l

  pub span_is : Goes (NUM ∷ word keywords.From ∷ NUM ∷ word keywords.To ∷ NUM ∷ N STEP ∷ mark marks.Semicolon ∷ A make_stall ∷ s) v ts o → Goes (N SPAN ∷ s) v ts o
  span_is l = goes (NUM ∷ word keywords.From ∷ NUM ∷ word keywords.To ∷ NUM ∷ N STEP ∷ mark marks.Semicolon ∷ A make_stall ∷ []) refl l

  pub step_else : false ≡ (look language ts == keyword_class keywords.Step) → Goes (A no_number ∷ s) v ts o → Goes (N STEP ∷ s) v ts o
  step_else h l = goes_past (keyword_class keywords.Step) _ (A no_number ∷ []) h refl l

  pub inputs_else : false ≡ (look language ts == keyword_class keywords.Inputs) → Goes (A no_input_section ∷ s) v ts o → Goes (N INPUTS ∷ s) v ts o
  inputs_else h l = goes_past (keyword_class keywords.Inputs) _ (A no_input_section ∷ []) h refl l

  pub entries_1 : true ≡ (look language ts == IDENTIFIER)
      → Goes (N ENTRY ∷ A one_input ∷ N ENTRIES ∷ s) v ts o → Goes (N ENTRIES ∷ s) v ts o
  entries_1 h l = goes_at (IDENTIFIER) h refl l

  pub entries_else : false ≡ (look language ts == IDENTIFIER) → Goes s v ts o → Goes (N ENTRIES ∷ s) v ts o
  entries_else h l = goes_past (IDENTIFIER) _ ([]) h refl l

  pub entry_is : Goes (NAME ∷ mark marks.Equals ∷ LIT ∷ word keywords.From ∷ NUM ∷ word keywords.To ∷ NUM ∷ N STEP ∷ mark marks.Semicolon ∷ A make_input ∷ s) v ts o → Goes (N ENTRY ∷ s) v ts o
  entry_is l = goes (NAME ∷ mark marks.Equals ∷ LIT ∷ word keywords.From ∷ NUM ∷ word keywords.To ∷ NUM ∷ N STEP ∷ mark marks.Semicolon ∷ A make_input ∷ []) refl l

-- and the one that a token which has been found selects.
module _ {s : List Sym} {v : State} {ts : List Lexeme} {i j : ℕ} {p : Place} {o : Outcome State} where
  pub index_1 : Finds ts (mark_class marks.OpenBracket) p i j
      → Goes (mark marks.OpenBracket ∷ NAME ∷ mark marks.CloseBracket ∷ A some_name ∷ s) v (drop i ts) o → Goes (N INDEX ∷ s) v (drop i ts) o
  index_1 f l = goes_by f refl l

  pub enable_1 : Finds ts (keyword_class keywords.When) p i j
      → Goes (word keywords.When ∷ NAME ∷ A some_name ∷ s) v (drop i ts) o → Goes (N ENABLE ∷ s) v (drop i ts) o
  enable_1 f l = goes_by f refl l

  pub pars_1 : Finds ts (mark_class marks.Comma) p i j
      → Goes (mark marks.Comma ∷ N PAR ∷ A one_param ∷ N PARS ∷ s) v (drop i ts) o → Goes (N PARS ∷ s) v (drop i ts) o
  pars_1 f l = goes_by f refl l

  pub address_1 : Finds ts (mark_class marks.OpenBracket) p i j
      → Goes (mark marks.OpenBracket ∷ N WHOLE ∷ mark marks.CloseBracket ∷ A some_expr ∷ s) v (drop i ts) o → Goes (N ADDRESS ∷ s) v (drop i ts) o
  address_1 f l = goes_by f refl l

  pub hedge_guess : Finds ts (keyword_class keywords.Guess) p i j
      → Goes (word keywords.Guess ∷ N WHOLE ∷ A some_guess ∷ s) v (drop i ts) o → Goes (N HEDGE ∷ s) v (drop i ts) o
  hedge_guess f l = goes_by f refl l

  pub when_1 : Finds ts (keyword_class keywords.When) p i j
      → Goes (word keywords.When ∷ N WHOLE ∷ A some_expr ∷ s) v (drop i ts) o → Goes (N WHEN ∷ s) v (drop i ts) o
  when_1 f l = goes_by f refl l

  pub image_1 : Finds ts (keyword_class keywords.Image) p i j
      → Goes (word keywords.Image ∷ mark marks.OpenBrace ∷ A no_images ∷ N WORDS ∷ mark marks.CloseBrace ∷ A image_section ∷ s) v (drop i ts) o → Goes (N IMAGE ∷ s) v (drop i ts) o
  image_1 f l = goes_by f refl l

  pub lits_1 : Finds ts (mark_class marks.Comma) p i j
      → Goes (mark marks.Comma ∷ LIT ∷ A one_literal ∷ N LITS ∷ s) v (drop i ts) o → Goes (N LITS ∷ s) v (drop i ts) o
  lits_1 f l = goes_by f refl l

  pub stalls_1 : Finds ts (keyword_class keywords.Stalls) p i j
      → Goes (word keywords.Stalls ∷ mark marks.OpenBrace ∷ A no_stalls ∷ N SPANS ∷ mark marks.CloseBrace ∷ A stall_section ∷ s) v (drop i ts) o → Goes (N STALLS ∷ s) v (drop i ts) o
  stalls_1 f l = goes_by f refl l

  pub step_1 : Finds ts (keyword_class keywords.Step) p i j
      → Goes (word keywords.Step ∷ NUM ∷ A some_number ∷ s) v (drop i ts) o → Goes (N STEP ∷ s) v (drop i ts) o
  step_1 f l = goes_by f refl l

  pub inputs_1 : Finds ts (keyword_class keywords.Inputs) p i j
      → Goes (word keywords.Inputs ∷ mark marks.OpenBrace ∷ A no_inputs ∷ N ENTRIES ∷ mark marks.CloseBrace ∷ A input_section ∷ s) v (drop i ts) o → Goes (N INPUTS ∷ s) v (drop i ts) o
  inputs_1 f l = goes_by f refl l

  pub numbered_1 : Finds ts (mark_class marks.OpenBracket) p i j
      → Goes (mark marks.OpenBracket ∷ NUM ∷ mark marks.CloseBracket ∷ A some_number ∷ s) v (drop i ts) o → Goes (N NUMBERED ∷ s) v (drop i ts) o
  numbered_1 f l = goes_by f refl l
