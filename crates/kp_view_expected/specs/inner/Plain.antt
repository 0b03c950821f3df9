-- The grammar over classes of tokens, without what it builds.
use Rattle.std.specs.Prelude.{ℕ}
use Rattle.kp_parse_grammar.specs.Language.{rules, ADDRESS, BINDING, CALL, CHOICE, DECL, DECLS, ENABLE, ENTRIES, ENTRY, EXPR, EXPRS, EXTENDED, HEDGE, IMAGE, INDEX, INPUTS, JOB, LITS, LOW, NUMBERED, PAR, PARS, PARTS, POST, PRIM, SLICES, SPAN, SPANS, STAGE, STAGES, STALLS, STEP, STMT, STMTS, UNARY, WHEN, WHOLE, WORD, WORDS}
use Rattle.kp_parse_grammar.specs.Tokens.{IDENTIFIER, NUMBER, LITERAL, keyword_class, mark_class}
use Rattle.kp_expected.specs.Plain.{PlainRules, stripped_rules}
use Rattle.kp_view_expected.specs.declared.{token_class.TokenClass.TokenClass, part.Part.Part}
use Rattle.kp_view_expected.specs.declared.token_class.TokenClass.TheVariants as classes
use Rattle.kp_view_expected.specs.declared.part.Part.TheVariants as parts

-- the number of a class in the grammar
abbrev pub number : TokenClass → ℕ
number (classes.Keyword k) = keyword_class k
number (classes.Mark m) = mark_class m
number classes.Name = IDENTIFIER
number classes.Number = NUMBER
number classes.Literal = LITERAL

-- the name of a part in the grammar, where a level of operators is 40 to 46, and what may follow its operand 50 to 56
abbrev pub name : Part → ℕ
name parts.Job = JOB
name parts.Decls = DECLS
name parts.Decl = DECL
name parts.Index = INDEX
name parts.Enable = ENABLE
name parts.Par = PAR
name parts.Pars = PARS
name parts.Stage = STAGE
name parts.Stages = STAGES
name parts.Stmts = STMTS
name parts.Stmt = STMT
name parts.Binding = BINDING
name parts.Address = ADDRESS
name parts.Hedge = HEDGE
name parts.When = WHEN
name parts.Whole = WHOLE
name parts.Image = IMAGE
name parts.Words = WORDS
name parts.Word = WORD
name parts.Numbered = NUMBERED
name parts.Lits = LITS
name parts.Stalls = STALLS
name parts.Spans = SPANS
name parts.Span = SPAN
name parts.Step = STEP
name parts.Inputs = INPUTS
name parts.Entries = ENTRIES
name parts.Entry = ENTRY
name parts.Extended = EXTENDED
name parts.Expr = EXPR
name parts.Choice = CHOICE
name parts.Unary = UNARY
name parts.Post = POST
name parts.Slices = SLICES
name parts.Low = LOW
name parts.Prim = PRIM
name parts.Call = CALL
name parts.Exprs = EXPRS
name parts.Parts = PARTS
name parts.Or = 40
name parts.Xor = 41
name parts.And = 42
name parts.Compare = 43
name parts.Shift = 44
name parts.Sum = 45
name parts.Product = 46
name parts.MoreOr = 50
name parts.MoreXor = 51
name parts.MoreAnd = 52
name parts.MoreCompare = 53
name parts.MoreShift = 54
name parts.MoreSum = 55
name parts.MoreProduct = 56

-- the rules
abbrev pub plain_rules : PlainRules
plain_rules = stripped_rules rules
