-- For each name its first and follow sets: the tables by which the machine of kp_grammar chooses an alternative.
use Rattle.std.specs.Prelude.{ℕ, List, [], ◌∷◌, true, false}
use Rattle.kp_grammar.specs.Tables.{Tables, Row, END_OF_TEXT}
use Rattle.kp_lex.specs.declared.token.Keyword.TheVariants as keywords
use Rattle.kp_lex.specs.declared.token.Mark.TheVariants as marks
use Rattle.kp_parse_grammar.specs.declared.level.Level.TheVariants as levels
use Rattle.kp_parse_grammar.specs.Language.{JOB, DECLS, DECL, INDEX, ENABLE, PAR, PARS, STAGE, STAGES, STMTS, STMT, BINDING, ADDRESS, HEDGE, WHEN, WHOLE, IMAGE, WORDS, WORD, NUMBERED, LITS, STALLS, SPANS, SPAN, STEP, INPUTS, ENTRIES, ENTRY, EXPR, CHOICE, UNARY, POST, SLICES, LOW, PRIM, EXTENDED, CALL, EXPRS, PARTS, CHAIN, MORE}
use Rattle.kp_parse_grammar.specs.Tokens.{IDENTIFIER, NUMBER, LITERAL, keyword_class, mark_class}

abbrev row : ℕ → List ℕ → List ℕ → Row
row n first after = record { name = n; first = first; empty = false; after = after }

-- a name that is nullable
abbrev maybe : ℕ → List ℕ → List ℕ → Row
maybe n first after = record { name = n; first = first; empty = true; after = after }

-- the first classes of a declaration
abbrev pub decl_words : List ℕ
decl_words = keyword_class keywords.Reg ∷ keyword_class keywords.File ∷ keyword_class keywords.Pipe ∷ keyword_class keywords.Result ∷ keyword_class keywords.Hint ∷ keyword_class keywords.Sample ∷ keyword_class keywords.Fn ∷ []

-- the first classes of a statement
abbrev pub stmt_words : List ℕ
stmt_words = keyword_class keywords.Read ∷ keyword_class keywords.Let ∷ keyword_class keywords.Put ∷ keyword_class keywords.Set ∷ keyword_class keywords.Aim ∷ []

-- the first classes of an operand of a slice
abbrev pub prim_starts : List ℕ
prim_starts = LITERAL ∷ IDENTIFIER ∷ mark_class marks.OpenParenthesis ∷ mark_class marks.OpenBrace ∷ keyword_class keywords.Zext ∷ keyword_class keywords.Sext ∷ []

-- the first classes of an expression
abbrev pub expr_starts : List ℕ
expr_starts = mark_class marks.Tilde ∷ prim_starts

-- what may follow an expression
abbrev pub behind_expr : List ℕ
behind_expr = keyword_class keywords.When ∷ mark_class marks.CloseBrace ∷ mark_class marks.CloseBracket ∷ mark_class marks.CloseParenthesis ∷ mark_class marks.Colon ∷ mark_class marks.Comma ∷ mark_class marks.Semicolon ∷ []

-- .. an operand of `?`
abbrev pub behind_or : List ℕ
behind_or = mark_class marks.Question ∷ behind_expr

-- .. an operand of `|`
abbrev pub behind_xor : List ℕ
behind_xor = mark_class marks.Bar ∷ behind_or

-- .. an operand of `^`
abbrev pub behind_and : List ℕ
behind_and = mark_class marks.Caret ∷ behind_xor

-- .. an operand of `&`
abbrev pub behind_compare : List ℕ
behind_compare = mark_class marks.Ampersand ∷ behind_and

-- .. an operand of a comparison
abbrev pub behind_shift : List ℕ
behind_shift = mark_class marks.EqualsEquals ∷ mark_class marks.Less ∷ behind_compare

-- .. an operand of a shift
abbrev pub behind_sum : List ℕ
behind_sum = mark_class marks.ShiftLeft ∷ mark_class marks.ShiftRight ∷ behind_shift

-- .. an operand of a sum
abbrev pub behind_product : List ℕ
behind_product = mark_class marks.Plus ∷ mark_class marks.Minus ∷ behind_sum

-- .. an operand of `*`
abbrev pub behind_unary : List ℕ
behind_unary = mark_class marks.Star ∷ behind_product

-- .. an operand of a slice
abbrev pub behind_prim : List ℕ
behind_prim = mark_class marks.OpenBracket ∷ behind_unary

abbrev pub tables : Tables
tables =
    row JOB (keyword_class keywords.Machine ∷ []) (END_OF_TEXT ∷ [])
    ∷ maybe DECLS decl_words (keyword_class keywords.Stage ∷ [])
    ∷ row DECL decl_words (keyword_class keywords.Reg ∷ keyword_class keywords.File ∷ keyword_class keywords.Pipe ∷ keyword_class keywords.Result ∷ keyword_class keywords.Hint ∷ keyword_class keywords.Sample ∷ keyword_class keywords.Fn ∷ keyword_class keywords.Stage ∷ [])
    ∷ maybe INDEX (mark_class marks.OpenBracket ∷ []) (keyword_class keywords.When ∷ keyword_class keywords.At ∷ [])
    ∷ maybe ENABLE (keyword_class keywords.When ∷ []) (keyword_class keywords.At ∷ [])
    ∷ row PAR (IDENTIFIER ∷ []) (mark_class marks.Equals ∷ mark_class marks.OpenBracket ∷ mark_class marks.Semicolon ∷ mark_class marks.Arrow ∷ mark_class marks.Comma ∷ mark_class marks.CloseParenthesis ∷ keyword_class keywords.At ∷ [])
    ∷ maybe PARS (mark_class marks.Comma ∷ []) (mark_class marks.CloseParenthesis ∷ [])
    ∷ row STAGE (keyword_class keywords.Stage ∷ []) (keyword_class keywords.Stage ∷ keyword_class keywords.Image ∷ keyword_class keywords.Stalls ∷ keyword_class keywords.Inputs ∷ keyword_class keywords.End ∷ [])
    ∷ maybe STAGES (keyword_class keywords.Stage ∷ []) (keyword_class keywords.Image ∷ keyword_class keywords.Stalls ∷ keyword_class keywords.Inputs ∷ keyword_class keywords.End ∷ [])
    ∷ maybe STMTS stmt_words (mark_class marks.CloseBrace ∷ [])
    ∷ row STMT stmt_words (keyword_class keywords.Read ∷ keyword_class keywords.Let ∷ keyword_class keywords.Put ∷ keyword_class keywords.Set ∷ keyword_class keywords.Aim ∷ mark_class marks.CloseBrace ∷ [])
    ∷ row BINDING (IDENTIFIER ∷ []) (mark_class marks.Semicolon ∷ keyword_class keywords.When ∷ [])
    ∷ maybe ADDRESS (mark_class marks.OpenBracket ∷ []) (keyword_class keywords.When ∷ keyword_class keywords.Guess ∷ mark_class marks.Semicolon ∷ [])
    ∷ maybe HEDGE (keyword_class keywords.When ∷ keyword_class keywords.Guess ∷ []) (mark_class marks.Semicolon ∷ [])
    ∷ maybe WHEN (keyword_class keywords.When ∷ []) (mark_class marks.Semicolon ∷ [])
    ∷ row WHOLE expr_starts (mark_class marks.Semicolon ∷ keyword_class keywords.When ∷ mark_class marks.CloseBracket ∷ [])
    ∷ maybe IMAGE (keyword_class keywords.Image ∷ []) (keyword_class keywords.Stalls ∷ keyword_class keywords.Inputs ∷ keyword_class keywords.End ∷ [])
    ∷ maybe WORDS (IDENTIFIER ∷ []) (mark_class marks.CloseBrace ∷ [])
    ∷ row WORD (IDENTIFIER ∷ []) (IDENTIFIER ∷ mark_class marks.CloseBrace ∷ [])
    ∷ maybe NUMBERED (mark_class marks.OpenBracket ∷ []) (mark_class marks.Equals ∷ [])
    ∷ maybe LITS (mark_class marks.Comma ∷ []) (mark_class marks.Semicolon ∷ [])
    ∷ maybe STALLS (keyword_class keywords.Stalls ∷ []) (keyword_class keywords.Inputs ∷ keyword_class keywords.End ∷ [])
    ∷ maybe SPANS (NUMBER ∷ []) (mark_class marks.CloseBrace ∷ [])
    ∷ row SPAN (NUMBER ∷ []) (NUMBER ∷ mark_class marks.CloseBrace ∷ [])
    ∷ maybe STEP (keyword_class keywords.Step ∷ []) (mark_class marks.Semicolon ∷ [])
    ∷ maybe INPUTS (keyword_class keywords.Inputs ∷ []) (keyword_class keywords.End ∷ [])
    ∷ maybe ENTRIES (IDENTIFIER ∷ []) (mark_class marks.CloseBrace ∷ [])
    ∷ row ENTRY (IDENTIFIER ∷ []) (IDENTIFIER ∷ mark_class marks.CloseBrace ∷ [])
    ∷ row EXPR expr_starts behind_expr
    ∷ maybe CHOICE (mark_class marks.Question ∷ []) behind_expr
    ∷ row (CHAIN levels.Or) expr_starts behind_or
    ∷ maybe (MORE levels.Or) (mark_class marks.Bar ∷ []) behind_or
    ∷ row (CHAIN levels.Xor) expr_starts behind_xor
    ∷ maybe (MORE levels.Xor) (mark_class marks.Caret ∷ []) behind_xor
    ∷ row (CHAIN levels.And) expr_starts behind_and
    ∷ maybe (MORE levels.And) (mark_class marks.Ampersand ∷ []) behind_and
    ∷ row (CHAIN levels.Compare) expr_starts behind_compare
    ∷ maybe (MORE levels.Compare) (mark_class marks.EqualsEquals ∷ mark_class marks.Less ∷ []) behind_compare
    ∷ row (CHAIN levels.Shift) expr_starts behind_shift
    ∷ maybe (MORE levels.Shift) (mark_class marks.ShiftLeft ∷ mark_class marks.ShiftRight ∷ []) behind_shift
    ∷ row (CHAIN levels.Sum) expr_starts behind_sum
    ∷ maybe (MORE levels.Sum) (mark_class marks.Plus ∷ mark_class marks.Minus ∷ []) behind_sum
    ∷ row (CHAIN levels.Product) expr_starts behind_product
    ∷ maybe (MORE levels.Product) (mark_class marks.Star ∷ []) behind_product
    ∷ row UNARY expr_starts behind_unary
    ∷ row POST prim_starts behind_unary
    ∷ maybe SLICES (mark_class marks.OpenBracket ∷ []) behind_unary
    ∷ maybe LOW (mark_class marks.Colon ∷ []) (mark_class marks.CloseBracket ∷ [])
    ∷ row PRIM prim_starts behind_prim
    ∷ row EXTENDED (mark_class marks.OpenParenthesis ∷ []) behind_prim
    ∷ maybe CALL (mark_class marks.OpenParenthesis ∷ []) behind_prim
    ∷ row EXPRS expr_starts (mark_class marks.CloseBrace ∷ mark_class marks.CloseParenthesis ∷ [])
    ∷ maybe PARTS (mark_class marks.Comma ∷ []) (mark_class marks.CloseBrace ∷ mark_class marks.CloseParenthesis ∷ [])
    ∷ []
