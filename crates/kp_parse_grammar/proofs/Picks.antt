-- What the machine does at a name, as the next token says.
use Rattle.std.proofs.Common.{ℕ, ◌≡◌, ◌==◌, List, [], ◌∷◌, ◌++◌, drop, Bool, true, false, cond, ◌||◌, Option, Some, refl, sym, ap, ◌∙◌, subst}
use Rattle.std.proofs.lemmas.Bool.{eqb-true}
use Rattle.kp_base.specs.declared.place.Place.{Place}
use Rattle.kp_grammar.specs.{Grammar.Nonterminal, Grammar.Action, Tables.pick, Tables.among, Machine.Outcome, Machine.look, Machine.goes}
use Rattle.kp_lex.specs.declared.token.Keyword.{Keyword}
use Rattle.kp_parse_grammar.specs.Language.{Sym, State, Step, rules, language, mark, placed, counted, opening, opening_at, closing, separating, NAME, NUM, LIT, DECL, DECLS, STMT, STMTS, WHOLE, EXPR, CHAIN, CHOICE, UNARY, POST, SLICES, LOW, PRIM, EXTENDED, CALL, EXPRS, PARTS, one_decl, one_stmt, enter, leave, make_choice, make_not, make_slice, same_bit, make_literal, make_concat, make_call, make_name, no_exprs, one_expr}
use Rattle.kp_parse_grammar.specs.Tokens.{Lexeme, LITERAL, IDENTIFIER, keyword_class, mark_class}
use Rattle.kp_parse_grammar.specs.{Follow.tables, Follow.decl_words, Follow.stmt_words, inner.Extension.ExtendsAt, inner.Extension.extending}
use Rattle.kp_parse_grammar.specs.Reading.{Goes, Finds}
use Rattle.kp_lex.specs.declared.token.Keyword.TheVariants as keywords
use Rattle.kp_lex.specs.declared.token.Mark.TheVariants as marks
use Rattle.kp_parse_grammar.specs.declared.level.Level.TheVariants as levels

abbrev N : ℕ → Sym
N n = Nonterminal n

abbrev A : Step → Sym
A a = Action a

pub other : (b : Bool) (x y z : Option (List Sym)) → false ≡ b → y ≡ z → cond (b || false) x y ≡ z
other true x y z h e = cc h
other false x y z h e = e

chosen : (b : Bool) (x y : Option (List Sym)) → true ≡ b → cond b x y ≡ x
chosen true x y h = refl
chosen false x y h = cc h

unchosen : (b : Bool) (x y : Option (List Sym)) → false ≡ b → cond b x y ≡ y
unchosen true x y h = cc h
unchosen false x y h = refl

at_class : (n c k : ℕ) (body : List Sym) → pick rules tables n c ≡ Some body → true ≡ (k == c) → pick rules tables n k ≡ Some body
at_class n c k body p h = subst (λ (d : ℕ). pick rules tables n d ≡ Some body) (sym (eqb-true k c (sym h))) p

-- the alternative that the token's class selects
pub goes_at : {n : ℕ} {body s : List Sym} {v : State} {ts : List Lexeme} {o : Outcome State} (c : ℕ) → true ≡ (look language ts == c)
    → pick rules tables n c ≡ Some body → Goes (body ++ s) v ts o → Goes (Nonterminal n ∷ s) v ts o
goes_at {n} {body} {ts = ts} c h p l = goes body (at_class n c (look language ts) body p h) l

-- the other one of two alternatives
pub goes_past : {n : ℕ} {s : List Sym} {v : State} {ts : List Lexeme} {o : Outcome State} (c : ℕ) (x : Option (List Sym)) (body : List Sym) → false ≡ (look language ts == c)
    → pick rules tables n (look language ts) ≡ cond ((look language ts == c) || false) x (Some body) → Goes (body ++ s) v ts o → Goes (Nonterminal n ∷ s) v ts o
goes_past {ts = ts} c x body h p l = goes body (p ∙ other (look language ts == c) x (Some body) _ h refl) l

module _ {s : List Sym} {v : State} {ts : List Lexeme} {o : Outcome State} where
  pub decls_1 : true ≡ among (look language ts) decl_words → Goes (N DECL ∷ A one_decl ∷ N DECLS ∷ s) v ts o → Goes (N DECLS ∷ s) v ts o
  decls_1 h l = goes (N DECL ∷ A one_decl ∷ N DECLS ∷ []) (chosen (among (look language ts) decl_words) _ _ h) l

  pub decls_else : false ≡ among (look language ts) decl_words → Goes (s) v ts o → Goes (N DECLS ∷ s) v ts o
  decls_else h l = goes ([]) (unchosen (among (look language ts) decl_words) _ _ h) l

  pub stmts_1 : true ≡ among (look language ts) stmt_words → Goes (N STMT ∷ A one_stmt ∷ N STMTS ∷ s) v ts o → Goes (N STMTS ∷ s) v ts o
  stmts_1 h l = goes (N STMT ∷ A one_stmt ∷ N STMTS ∷ []) (chosen (among (look language ts) stmt_words) _ _ h) l

  pub stmts_else : false ≡ among (look language ts) stmt_words → Goes (s) v ts o → Goes (N STMTS ∷ s) v ts o
  stmts_else h l = goes ([]) (unchosen (among (look language ts) stmt_words) _ _ h) l

-- .. and the one that a token selects
pub goes_by : {n k i j : ℕ} {p : Place} {body s : List Sym} {v : State} {ts : List Lexeme} {o : Outcome State} → Finds ts k p i j
    → pick rules tables n k ≡ Some body → Goes (body ++ s) v (drop i ts) o → Goes (Nonterminal n ∷ s) v (drop i ts) o
goes_by {n} {k} {i} {body = body} {ts = ts} f e l = goes body (subst (λ (c : ℕ). pick rules tables n c ≡ Some body) (sym (ap (look language) f.whole ∙ f.class)) e) l

extension_body : (k : Keyword) (c : ℕ) → ExtendsAt c k → pick rules tables PRIM c ≡ Some (placed k ∷ N EXTENDED ∷ A (extending k) ∷ [])
extension_body keywords.Zext c h = at_class PRIM (keyword_class keywords.Zext) c _ refl h
extension_body keywords.Sext c h = other _ _ _ _ h.0 (other _ _ _ _ h.1 (other _ _ _ _ h.2 (other _ _ _ _ h.3 (other _ _ _ _ h.4 refl))))
extension_body _ c h = absurd h

-- The alternatives of expressions: the one that the next token selects, or the last one,
module _ {s : List Sym} {v : State} {ts : List Lexeme} {o : Outcome State} where
  pub whole_is : Goes (A enter ∷ N EXPR ∷ A leave ∷ s) v ts o → Goes (N WHOLE ∷ s) v ts o
  whole_is l = goes (A enter ∷ N EXPR ∷ A leave ∷ []) refl l

  pub expr_is : Goes (N (CHAIN levels.Or) ∷ N CHOICE ∷ s) v ts o → Goes (N EXPR ∷ s) v ts o
  expr_is l = goes (N (CHAIN levels.Or) ∷ N CHOICE ∷ []) refl l

  pub choice_else : false ≡ (look language ts == mark_class marks.Question) → Goes s v ts o → Goes (N CHOICE ∷ s) v ts o
  choice_else h l = goes_past (mark_class marks.Question) _ [] h refl l

  pub post_is : Goes (N PRIM ∷ N SLICES ∷ s) v ts o → Goes (N POST ∷ s) v ts o
  post_is l = goes (N PRIM ∷ N SLICES ∷ []) refl l

  pub slices_1 : true ≡ (look language ts == mark_class marks.OpenBracket)
      → Goes (counted marks.OpenBracket ∷ NUM ∷ N LOW ∷ mark marks.CloseBracket ∷ A make_slice ∷ N SLICES ∷ s) v ts o → Goes (N SLICES ∷ s) v ts o
  slices_1 h l = goes_at (mark_class marks.OpenBracket) h refl l

  pub slices_else : false ≡ (look language ts == mark_class marks.OpenBracket) → Goes s v ts o → Goes (N SLICES ∷ s) v ts o
  slices_else h l = goes_past (mark_class marks.OpenBracket) _ [] h refl l

  pub low_else : false ≡ (look language ts == mark_class marks.Colon) → Goes (A same_bit ∷ s) v ts o → Goes (N LOW ∷ s) v ts o
  low_else h l = goes_past (mark_class marks.Colon) _ (A same_bit ∷ []) h refl l

  pub prim_literal : true ≡ (look language ts == LITERAL) → Goes (LIT ∷ A make_literal ∷ s) v ts o → Goes (N PRIM ∷ s) v ts o
  prim_literal h l = goes_at LITERAL h refl l

  pub prim_name : true ≡ (look language ts == IDENTIFIER) → Goes (NAME ∷ N CALL ∷ s) v ts o → Goes (N PRIM ∷ s) v ts o
  prim_name h l = goes_at IDENTIFIER h refl l

  pub prim_bracket : true ≡ (look language ts == mark_class marks.OpenParenthesis)
      → Goes (opening marks.OpenParenthesis ∷ N EXPR ∷ closing marks.CloseParenthesis ∷ s) v ts o → Goes (N PRIM ∷ s) v ts o
  prim_bracket h l = goes_at (mark_class marks.OpenParenthesis) h refl l

  pub prim_concat : true ≡ (look language ts == mark_class marks.OpenBrace)
      → Goes (opening_at marks.OpenBrace ∷ N EXPRS ∷ closing marks.CloseBrace ∷ A make_concat ∷ s) v ts o → Goes (N PRIM ∷ s) v ts o
  prim_concat h l = goes_at (mark_class marks.OpenBrace) h refl l

  pub prim_extended : (k : Keyword) → ExtendsAt (look language ts) k → Goes (placed k ∷ N EXTENDED ∷ A (extending k) ∷ s) v ts o → Goes (N PRIM ∷ s) v ts o
  prim_extended k h l = goes (placed k ∷ N EXTENDED ∷ A (extending k) ∷ []) (extension_body k (look language ts) h) l

  pub extended_is : Goes (opening marks.OpenParenthesis ∷ N EXPR ∷ separating marks.Comma ∷ NUM ∷ closing marks.CloseParenthesis ∷ s) v ts o → Goes (N EXTENDED ∷ s) v ts o
  extended_is l = goes (opening marks.OpenParenthesis ∷ N EXPR ∷ separating marks.Comma ∷ NUM ∷ closing marks.CloseParenthesis ∷ []) refl l

  pub call_else : false ≡ (look language ts == mark_class marks.OpenParenthesis) → Goes (A make_name ∷ s) v ts o → Goes (N CALL ∷ s) v ts o
  call_else h l = goes_past (mark_class marks.OpenParenthesis) _ (A make_name ∷ []) h refl l

  pub exprs_are : Goes (A no_exprs ∷ N EXPR ∷ A one_expr ∷ N PARTS ∷ s) v ts o → Goes (N EXPRS ∷ s) v ts o
  exprs_are l = goes (A no_exprs ∷ N EXPR ∷ A one_expr ∷ N PARTS ∷ []) refl l

  pub parts_else : false ≡ (look language ts == mark_class marks.Comma) → Goes s v ts o → Goes (N PARTS ∷ s) v ts o
  parts_else h l = goes_past (mark_class marks.Comma) _ [] h refl l

-- and the one that a token which has been found selects.
module _ {s : List Sym} {v : State} {ts : List Lexeme} {i j : ℕ} {p : Place} {o : Outcome State} where
  pub choice_1 : Finds ts (mark_class marks.Question) p i j
      → Goes (counted marks.Question ∷ N EXPR ∷ mark marks.Colon ∷ N EXPR ∷ A make_choice ∷ s) v (drop i ts) o → Goes (N CHOICE ∷ s) v (drop i ts) o
  choice_1 f l = goes_by f refl l

  pub unary_1 : Finds ts (mark_class marks.Tilde) p i j → Goes (counted marks.Tilde ∷ N UNARY ∷ A make_not ∷ s) v (drop i ts) o → Goes (N UNARY ∷ s) v (drop i ts) o
  unary_1 f l = goes_by f refl l

  pub low_1 : Finds ts (mark_class marks.Colon) p i j → Goes (mark marks.Colon ∷ NUM ∷ s) v (drop i ts) o → Goes (N LOW ∷ s) v (drop i ts) o
  low_1 f l = goes_by f refl l

  pub call_1 : Finds ts (mark_class marks.OpenParenthesis) p i j
      → Goes (opening marks.OpenParenthesis ∷ N EXPRS ∷ closing marks.CloseParenthesis ∷ A make_call ∷ s) v (drop i ts) o → Goes (N CALL ∷ s) v (drop i ts) o
  call_1 f l = goes_by f refl l

  pub parts_1 : Finds ts (mark_class marks.Comma) p i j → Goes (separating marks.Comma ∷ N EXPR ∷ A one_expr ∷ N PARTS ∷ s) v (drop i ts) o → Goes (N PARTS ∷ s) v (drop i ts) o
  parts_1 f l = goes_by f refl l
