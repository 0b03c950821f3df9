-- The grammar of machine descriptions, with what it builds.
use Rattle.std.specs.Prelude.{ℕ, ◌+◌, ◌||◌, nat_lt, List, [], ◌∷◌, ◌++◌, Bool, false, Option, Some, None}
use Rattle.kp_base.specs.declared.place.Place.{Place}
use Rattle.kp_grammar.specs.Grammar.{Symbol, Terminal, Nonterminal, Action, Rules, Grammar}
use Rattle.kp_bits.specs.declared.operator.BinOp.{BinOp}
use Rattle.kp_bits.specs.declared.operator.BinOp.TheVariants as ops
use Rattle.kp_ast.specs.declared.tree.{Named.Named, Num.Num, Lit.Lit, Expr.Expr, Stmt.Stmt, Block.Block, Param.Param, Decl.Decl, Image.Image, Stalls.Stalls}
use Rattle.kp_ast.specs.declared.tree.{Inputs.Inputs, Job.Job}
use Rattle.kp_ast.specs.declared.tree.ExprKind.TheVariants as leaves
use Rattle.kp_ast.specs.declared.tree.ExprKind.TheViews as expressions
use Rattle.kp_ast.specs.declared.tree.StmtKind.TheVariants as statements
use Rattle.kp_ast.specs.declared.tree.Decl.TheVariants as declarations
use Rattle.kp_lex.specs.declared.token.{Keyword.Keyword, Mark.Mark}
use Rattle.kp_parse_grammar.specs.declared.level.Level.{Level}
use Rattle.kp_parse_grammar.specs.Tokens.{Lexeme, IDENTIFIER, NUMBER, LITERAL, keyword_class, mark_class, kind_class, named_of, number_of, literal_of}
use Rattle.kp_lex.specs.declared.token.Keyword.TheVariants as keywords
use Rattle.kp_lex.specs.declared.token.Mark.TheVariants as marks
use Rattle.kp_parse_grammar.specs.declared.level.Level.TheVariants as levels

-- what has been read and built
pub data Value : Type 0 where
  place : Place → Value
  named : Named → Value
  number : Num → Value
  literal : Lit → Value
  expr : Expr → Value
  exprs : List Expr → Value
  perhaps_expr : Option Expr → Value
  perhaps_named : Option Named → Value
  perhaps_number : Option Num → Value
  param : Param → Value
  params : List Param → Value
  decl : Decl → Value
  decls : List Decl → Value
  stmt : Stmt → Value
  stmts : List Stmt → Value
  block : Block → Value
  blocks : List Block → Value
  literals : List Lit → Value
  image : Image → Value
  images : List Image → Value
  perhaps_images : Option (List Image) → Value
  stall : Stalls → Value
  stalls : List Stalls → Value
  perhaps_stalls : Option (List Stalls) → Value
  input : Inputs → Value
  inputs : List Inputs → Value
  perhaps_inputs : Option (List Inputs) → Value
  job : Job → Value

-- The counts of the open brackets, the innermost first; whether a count has exceeded the limit; and what has been
-- read and built, the newest first.
pub record State : Type 0 where
  pub counts : List ℕ
  pub over : Bool
  pub values : List Value

-- whether a count has exceeded the limit
abbrev pub is_over : State → Bool
is_over v = v.over

-- a state in which no count has exceeded the limit
abbrev pub at : List ℕ → List Value → State
at cs vs = record { counts = cs; over = false; values = vs }

-- How a token is read: it is dropped; its position, its name, its number or its literal is kept; it increments the
-- count, and its position is kept; it opens a bracket, and is dropped, or its position is kept; it closes the
-- bracket; or it separates parts in the bracket.
pub data Way : Type 0 where
  dropped : Way
  as_place : Way
  as_name : Way
  as_number : Way
  as_literal : Way
  counts_one : Way
  opens : Way
  opens_at : Way
  closes : Way
  separates : Way

-- The actions after a part of the language. An expression that is not part of another one starts and ends; the other actions build.
pub data Step : Type 0 where
  enter : Step
  leave : Step
  no_expr : Step
  some_expr : Step
  no_hedge : Step
  some_when : Step
  some_guess : Step
  no_name : Step
  some_name : Step
  no_number : Step
  some_number : Step
  no_exprs : Step
  one_expr : Step
  make_choice : Step
  make_binary : BinOp → Step
  make_not : Step
  same_bit : Step
  make_slice : Step
  make_literal : Step
  make_name : Step
  make_call : Step
  make_concat : Step
  make_zext : Step
  make_sext : Step
  make_param : Step
  no_params : Step
  one_param : Step
  make_reg : Step
  make_file : Step
  make_pipe : Step
  make_result : Step
  make_hint : Step
  make_sample : Step
  make_fn : Step
  no_decls : Step
  one_decl : Step
  make_read : Step
  make_let : Step
  make_put : Step
  make_set : Step
  make_aim : Step
  no_stmts : Step
  one_stmt : Step
  make_block : Step
  no_blocks : Step
  one_block : Step
  no_literals : Step
  one_literal : Step
  make_image : Step
  no_images : Step
  one_image : Step
  no_image_section : Step
  image_section : Step
  make_stall : Step
  no_stalls : Step
  one_stall : Step
  no_stall_section : Step
  stall_section : Step
  make_input : Step
  no_inputs : Step
  one_input : Step
  no_input_section : Step
  input_section : Step
  make_job : Step

abbrev pub Sym : Type 0
Sym = Symbol Way Step

-- Terminals: a keyword or a punctuator, a keyword whose position is kept, and a token with a value;
abbrev pub word : Keyword → Sym
word k = Terminal (keyword_class k) dropped

abbrev pub placed : Keyword → Sym
placed k = Terminal (keyword_class k) as_place

abbrev pub mark : Mark → Sym
mark m = Terminal (mark_class m) dropped

abbrev pub NAME : Sym
NAME = Terminal IDENTIFIER as_name

abbrev pub NUM : Sym
NUM = Terminal NUMBER as_number

abbrev pub LIT : Sym
LIT = Terminal LITERAL as_literal

-- in expressions operators and brackets, which increment the count.
abbrev pub counted : Mark → Sym
counted m = Terminal (mark_class m) counts_one

abbrev pub opening : Mark → Sym
opening m = Terminal (mark_class m) opens

abbrev pub opening_at : Mark → Sym
opening_at m = Terminal (mark_class m) opens_at

abbrev pub closing : Mark → Sym
closing m = Terminal (mark_class m) closes

abbrev pub separating : Mark → Sym
separating m = Terminal (mark_class m) separates

-- Names.
abbrev pub JOB : ℕ
JOB = 1

abbrev pub DECLS : ℕ
DECLS = 2

abbrev pub DECL : ℕ
DECL = 3

abbrev pub INDEX : ℕ
INDEX = 4

abbrev pub ENABLE : ℕ
ENABLE = 5

abbrev pub PAR : ℕ
PAR = 6

abbrev pub PARS : ℕ
PARS = 7

abbrev pub STAGE : ℕ
STAGE = 8

abbrev pub STAGES : ℕ
STAGES = 9

abbrev pub STMTS : ℕ
STMTS = 10

abbrev pub STMT : ℕ
STMT = 11

abbrev pub BINDING : ℕ
BINDING = 12

abbrev pub ADDRESS : ℕ
ADDRESS = 13

abbrev pub HEDGE : ℕ
HEDGE = 14

abbrev pub WHEN : ℕ
WHEN = 15

abbrev pub WHOLE : ℕ
WHOLE = 16

abbrev pub IMAGE : ℕ
IMAGE = 17

abbrev pub WORDS : ℕ
WORDS = 18

abbrev pub WORD : ℕ
WORD = 19

abbrev pub NUMBERED : ℕ
NUMBERED = 20

abbrev pub LITS : ℕ
LITS = 21

abbrev pub STALLS : ℕ
STALLS = 22

abbrev pub SPANS : ℕ
SPANS = 23

abbrev pub SPAN : ℕ
SPAN = 24

abbrev pub STEP : ℕ
STEP = 25

abbrev pub INPUTS : ℕ
INPUTS = 26

abbrev pub ENTRIES : ℕ
ENTRIES = 27

abbrev pub ENTRY : ℕ
ENTRY = 28

abbrev pub EXTENDED : ℕ
EXTENDED = 29

abbrev pub EXPR : ℕ
EXPR = 30

abbrev pub CHOICE : ℕ
CHOICE = 31

abbrev pub UNARY : ℕ
UNARY = 32

abbrev pub POST : ℕ
POST = 33

abbrev pub SLICES : ℕ
SLICES = 34

abbrev pub LOW : ℕ
LOW = 35

abbrev pub PRIM : ℕ
PRIM = 36

abbrev pub CALL : ℕ
CALL = 37

abbrev pub EXPRS : ℕ
EXPRS = 38

abbrev pub PARTS : ℕ
PARTS = 39

-- operators of a level with their operands, and what may follow an operand
abbrev pub CHAIN : Level → ℕ
CHAIN levels.Or = 40
CHAIN levels.Xor = 41
CHAIN levels.And = 42
CHAIN levels.Compare = 43
CHAIN levels.Shift = 44
CHAIN levels.Sum = 45
CHAIN levels.Product = 46

abbrev pub MORE : Level → ℕ
MORE levels.Or = 50
MORE levels.Xor = 51
MORE levels.And = 52
MORE levels.Compare = 53
MORE levels.Shift = 54
MORE levels.Sum = 55
MORE levels.Product = 56

-- an operand of a level
abbrev pub OPERAND : Level → ℕ
OPERAND levels.Or = CHAIN levels.Xor
OPERAND levels.Xor = CHAIN levels.And
OPERAND levels.And = CHAIN levels.Compare
OPERAND levels.Compare = CHAIN levels.Shift
OPERAND levels.Shift = CHAIN levels.Sum
OPERAND levels.Sum = CHAIN levels.Product
OPERAND levels.Product = UNARY

abbrev N : ℕ → Sym
N n = Nonterminal n

abbrev A : Step → Sym
A a = Action a

abbrev chain : Level → ℕ × List (List Sym)
chain l = (CHAIN l, (N (OPERAND l) ∷ N (MORE l) ∷ []) ∷ [])

-- an operator of a level, and what follows it
abbrev pub operation : Level → Mark → BinOp → List Sym
operation l m op = counted m ∷ N (OPERAND l) ∷ A (make_binary op) ∷ N (MORE l) ∷ []

-- a comparison is not repeated
abbrev pub comparison : Mark → BinOp → List Sym
comparison m op = counted m ∷ N (OPERAND levels.Compare) ∷ A (make_binary op) ∷ []

abbrev pub rules : Rules Way Step
rules =
    -- job = 'machine' NAME ';' 'stages' NUM ';' { decl } stage { stage } [ image ] [ stalls ] [ inputs ] 'end'
    (
      JOB,
      (
          word keywords.Machine ∷ NAME ∷ mark marks.Semicolon ∷ word keywords.Stages ∷ NUM ∷ mark marks.Semicolon
          ∷ A no_decls ∷ N DECLS ∷ A no_blocks ∷ N STAGE ∷ A one_block ∷ N STAGES ∷ N IMAGE ∷ N STALLS ∷ N INPUTS ∷ word keywords.End ∷ A make_job ∷ []
          ) ∷ [],
    )
    ∷ (DECLS, (N DECL ∷ A one_decl ∷ N DECLS ∷ []) ∷ [] ∷ [])
    -- decl = 'reg' par '=' LIT ';'
    --      | 'file' par '[' NUM ']' ';'
    --      | 'pipe' par ';'
    --      | 'result' par '->' NAME [ '[' NAME ']' ] [ 'when' NAME ] 'at' NUM ';'
    --      | 'hint' par '=' LIT ';'
    --      | 'sample' par 'at' NUM ';'
    --      | 'fn' NAME '(' par { ',' par } ')' ':' NUM '=' expr ';'
    ∷ (
      DECL,
      (word keywords.Reg ∷ N PAR ∷ mark marks.Equals ∷ LIT ∷ mark marks.Semicolon ∷ A make_reg ∷ [])
          ∷ (word keywords.File ∷ N PAR ∷ mark marks.OpenBracket ∷ NUM ∷ mark marks.CloseBracket ∷ mark marks.Semicolon ∷ A make_file ∷ [])
          ∷ (word keywords.Pipe ∷ N PAR ∷ mark marks.Semicolon ∷ A make_pipe ∷ [])
          ∷ (word keywords.Result ∷ N PAR ∷ mark marks.Arrow ∷ NAME ∷ N INDEX ∷ N ENABLE ∷ word keywords.At ∷ NUM ∷ mark marks.Semicolon ∷ A make_result ∷ [])
          ∷ (word keywords.Hint ∷ N PAR ∷ mark marks.Equals ∷ LIT ∷ mark marks.Semicolon ∷ A make_hint ∷ [])
          ∷ (word keywords.Sample ∷ N PAR ∷ word keywords.At ∷ NUM ∷ mark marks.Semicolon ∷ A make_sample ∷ [])
          ∷ (
          word keywords.Fn ∷ NAME ∷ mark marks.OpenParenthesis ∷ A no_params ∷ N PAR ∷ A one_param ∷ N PARS ∷ mark marks.CloseParenthesis
          ∷ mark marks.Colon ∷ NUM ∷ mark marks.Equals ∷ N WHOLE ∷ mark marks.Semicolon ∷ A make_fn ∷ []
          ) ∷ [],
    )
    ∷ (INDEX, (mark marks.OpenBracket ∷ NAME ∷ mark marks.CloseBracket ∷ A some_name ∷ []) ∷ (A no_name ∷ []) ∷ [])
    ∷ (ENABLE, (word keywords.When ∷ NAME ∷ A some_name ∷ []) ∷ (A no_name ∷ []) ∷ [])
    -- par = NAME ':' NUM
    ∷ (PAR, (NAME ∷ mark marks.Colon ∷ NUM ∷ A make_param ∷ []) ∷ [])
    ∷ (PARS, (mark marks.Comma ∷ N PAR ∷ A one_param ∷ N PARS ∷ []) ∷ [] ∷ [])
    -- stage = 'stage' NUM '{' { stmt } '}'
    ∷ (STAGE, (word keywords.Stage ∷ NUM ∷ mark marks.OpenBrace ∷ A no_stmts ∷ N STMTS ∷ mark marks.CloseBrace ∷ A make_block ∷ []) ∷ [])
    ∷ (STAGES, (N STAGE ∷ A one_block ∷ N STAGES ∷ []) ∷ [] ∷ [])
    ∷ (STMTS, (N STMT ∷ A one_stmt ∷ N STMTS ∷ []) ∷ [] ∷ [])
    -- stmt = 'read' NAME '=' NAME [ '[' expr ']' ] [ 'when' expr | 'guess' expr ] ';'
    --      | 'let' binding ';' | 'put' binding ';' | 'set' binding [ 'when' expr ] ';' | 'aim' binding ';'
    ∷ (
      STMT,
      (placed keywords.Read ∷ NAME ∷ mark marks.Equals ∷ NAME ∷ N ADDRESS ∷ N HEDGE ∷ mark marks.Semicolon ∷ A make_read ∷ [])
          ∷ (placed keywords.Let ∷ N BINDING ∷ mark marks.Semicolon ∷ A make_let ∷ [])
          ∷ (placed keywords.Put ∷ N BINDING ∷ mark marks.Semicolon ∷ A make_put ∷ [])
          ∷ (placed keywords.Set ∷ N BINDING ∷ N WHEN ∷ mark marks.Semicolon ∷ A make_set ∷ [])
          ∷ (placed keywords.Aim ∷ N BINDING ∷ mark marks.Semicolon ∷ A make_aim ∷ []) ∷ [],
    )
    -- binding = NAME '=' expr
    ∷ (BINDING, (NAME ∷ mark marks.Equals ∷ N WHOLE ∷ []) ∷ [])
    ∷ (ADDRESS, (mark marks.OpenBracket ∷ N WHOLE ∷ mark marks.CloseBracket ∷ A some_expr ∷ []) ∷ (A no_expr ∷ []) ∷ [])
    ∷ (HEDGE, (word keywords.When ∷ N WHOLE ∷ A some_when ∷ []) ∷ (word keywords.Guess ∷ N WHOLE ∷ A some_guess ∷ []) ∷ (A no_hedge ∷ []) ∷ [])
    ∷ (WHEN, (word keywords.When ∷ N WHOLE ∷ A some_expr ∷ []) ∷ (A no_expr ∷ []) ∷ [])
    -- an expression that is not part of another one, whose count starts at 0
    ∷ (WHOLE, (A enter ∷ N EXPR ∷ A leave ∷ []) ∷ [])
    -- image = 'image' '{' { NAME [ '[' NUM ']' ] '=' LIT { ',' LIT } ';' } '}'
    ∷ (IMAGE, (word keywords.Image ∷ mark marks.OpenBrace ∷ A no_images ∷ N WORDS ∷ mark marks.CloseBrace ∷ A image_section ∷ []) ∷ (A no_image_section ∷ []) ∷ [])
    ∷ (WORDS, (N WORD ∷ A one_image ∷ N WORDS ∷ []) ∷ [] ∷ [])
    ∷ (WORD, (NAME ∷ N NUMBERED ∷ mark marks.Equals ∷ A no_literals ∷ LIT ∷ A one_literal ∷ N LITS ∷ mark marks.Semicolon ∷ A make_image ∷ []) ∷ [])
    ∷ (NUMBERED, (mark marks.OpenBracket ∷ NUM ∷ mark marks.CloseBracket ∷ A some_number ∷ []) ∷ (A no_number ∷ []) ∷ [])
    ∷ (LITS, (mark marks.Comma ∷ LIT ∷ A one_literal ∷ N LITS ∷ []) ∷ [] ∷ [])
    -- stalls = 'stalls' '{' { NUM 'from' NUM 'to' NUM [ 'step' NUM ] ';' } '}'
    ∷ (STALLS, (word keywords.Stalls ∷ mark marks.OpenBrace ∷ A no_stalls ∷ N SPANS ∷ mark marks.CloseBrace ∷ A stall_section ∷ []) ∷ (A no_stall_section ∷ []) ∷ [])
    ∷ (SPANS, (N SPAN ∷ A one_stall ∷ N SPANS ∷ []) ∷ [] ∷ [])
    ∷ (SPAN, (NUM ∷ word keywords.From ∷ NUM ∷ word keywords.To ∷ NUM ∷ N STEP ∷ mark marks.Semicolon ∷ A make_stall ∷ []) ∷ [])
    ∷ (STEP, (word keywords.Step ∷ NUM ∷ A some_number ∷ []) ∷ (A no_number ∷ []) ∷ [])
    -- inputs = 'inputs' '{' { NAME '=' LIT 'from' NUM 'to' NUM [ 'step' NUM ] ';' } '}'
    ∷ (INPUTS, (word keywords.Inputs ∷ mark marks.OpenBrace ∷ A no_inputs ∷ N ENTRIES ∷ mark marks.CloseBrace ∷ A input_section ∷ []) ∷ (A no_input_section ∷ []) ∷ [])
    ∷ (ENTRIES, (N ENTRY ∷ A one_input ∷ N ENTRIES ∷ []) ∷ [] ∷ [])
    ∷ (ENTRY, (NAME ∷ mark marks.Equals ∷ LIT ∷ word keywords.From ∷ NUM ∷ word keywords.To ∷ NUM ∷ N STEP ∷ mark marks.Semicolon ∷ A make_input ∷ []) ∷ [])
    -- expr = or [ '?' expr ':' expr ]
    ∷ (EXPR, (N (CHAIN levels.Or) ∷ N CHOICE ∷ []) ∷ [])
    ∷ (CHOICE, (counted marks.Question ∷ N EXPR ∷ mark marks.Colon ∷ N EXPR ∷ A make_choice ∷ []) ∷ [] ∷ [])
    -- or = xor { '|' xor }
    ∷ chain levels.Or
    ∷ (MORE levels.Or, operation levels.Or marks.Bar ops.Or ∷ [] ∷ [])
    -- xor = and { '^' and }
    ∷ chain levels.Xor
    ∷ (MORE levels.Xor, operation levels.Xor marks.Caret ops.Xor ∷ [] ∷ [])
    -- and = cmp { '&' cmp }
    ∷ chain levels.And
    ∷ (MORE levels.And, operation levels.And marks.Ampersand ops.And ∷ [] ∷ [])
    -- cmp = shift [ ( '==' | '<' ) shift ]
    ∷ chain levels.Compare
    ∷ (MORE levels.Compare, comparison marks.EqualsEquals ops.Eq ∷ comparison marks.Less ops.Lt ∷ [] ∷ [])
    -- shift = sum { ( '<<' | '>>' ) sum }
    ∷ chain levels.Shift
    ∷ (MORE levels.Shift, operation levels.Shift marks.ShiftLeft ops.Shl ∷ operation levels.Shift marks.ShiftRight ops.Shr ∷ [] ∷ [])
    -- sum = prod { ( '+' | '-' ) prod }
    ∷ chain levels.Sum
    ∷ (MORE levels.Sum, operation levels.Sum marks.Plus ops.Add ∷ operation levels.Sum marks.Minus ops.Sub ∷ [] ∷ [])
    -- prod = unary { '*' unary }
    ∷ chain levels.Product
    ∷ (MORE levels.Product, operation levels.Product marks.Star ops.Mul ∷ [] ∷ [])
    -- unary = '~' unary | post
    ∷ (UNARY, (counted marks.Tilde ∷ N UNARY ∷ A make_not ∷ []) ∷ (N POST ∷ []) ∷ [])
    -- post = prim { '[' NUM [ ':' NUM ] ']' }
    ∷ (POST, (N PRIM ∷ N SLICES ∷ []) ∷ [])
    ∷ (SLICES, (counted marks.OpenBracket ∷ NUM ∷ N LOW ∷ mark marks.CloseBracket ∷ A make_slice ∷ N SLICES ∷ []) ∷ [] ∷ [])
    ∷ (LOW, (mark marks.Colon ∷ NUM ∷ []) ∷ (A same_bit ∷ []) ∷ [])
    -- prim = LIT | NAME | NAME '(' expr { ',' expr } ')' | '(' expr ')' | '{' expr { ',' expr } '}' | ( 'zext' | 'sext' ) '(' expr ',' NUM ')'
    ∷ (
      PRIM,
      (LIT ∷ A make_literal ∷ [])
          ∷ (NAME ∷ N CALL ∷ [])
          ∷ (opening marks.OpenParenthesis ∷ N EXPR ∷ closing marks.CloseParenthesis ∷ [])
          ∷ (opening_at marks.OpenBrace ∷ N EXPRS ∷ closing marks.CloseBrace ∷ A make_concat ∷ [])
          ∷ (placed keywords.Zext ∷ N EXTENDED ∷ A make_zext ∷ [])
          ∷ (placed keywords.Sext ∷ N EXTENDED ∷ A make_sext ∷ []) ∷ [],
    )
    ∷ (EXTENDED, (opening marks.OpenParenthesis ∷ N EXPR ∷ separating marks.Comma ∷ NUM ∷ closing marks.CloseParenthesis ∷ []) ∷ [])
    ∷ (CALL, (opening marks.OpenParenthesis ∷ N EXPRS ∷ closing marks.CloseParenthesis ∷ A make_call ∷ []) ∷ (A make_name ∷ []) ∷ [])
    -- in brackets: expr { ',' expr }
    ∷ (EXPRS, (A no_exprs ∷ N EXPR ∷ A one_expr ∷ N PARTS ∷ []) ∷ [])
    ∷ (PARTS, (separating marks.Comma ∷ N EXPR ∷ A one_expr ∷ N PARTS ∷ []) ∷ [] ∷ [])
    ∷ []

-- Reading: an opening bracket increments the count and starts a count of its own from there; a closing one returns to
-- the count where it was opened; a separator returns to the count just after the opening bracket.
abbrev pub counts_read : Way → List ℕ → List ℕ
counts_read counts_one (c ∷ cs) = (c + 1) ∷ cs
counts_read opens (c ∷ cs) = (c + 1) ∷ c ∷ cs
counts_read opens_at (c ∷ cs) = (c + 1) ∷ c ∷ cs
counts_read closes (c ∷ cs) = cs
counts_read separates (d ∷ c ∷ cs) = (c + 1) ∷ c ∷ cs
counts_read _ cs = cs

-- the nesting count of an expression is at most 64
abbrev pub LIMIT : ℕ
LIMIT = 64

-- whether reading exceeds the limit
abbrev pub passes : Way → List ℕ → Bool
passes counts_one (c ∷ cs) = nat_lt LIMIT (c + 1)
passes opens (c ∷ cs) = nat_lt LIMIT (c + 1)
passes opens_at (c ∷ cs) = nat_lt LIMIT (c + 1)
passes _ cs = false

abbrev pub values_read : Way → Lexeme → List Value → List Value
values_read as_place t vs = place t.place ∷ vs
values_read as_name t vs = named (named_of t) ∷ vs
values_read as_number t vs = number (number_of t) ∷ vs
values_read as_literal t vs = literal (literal_of t) ∷ vs
values_read counts_one t vs = place t.place ∷ vs
values_read opens_at t vs = place t.place ∷ vs
values_read _ t vs = vs

abbrev pub read_token : Way → Lexeme → State → State
read_token way t v = record { counts = counts_read way v.counts; over = v.over || passes way v.counts; values = values_read way t v.values }

abbrev pub counts_built : Step → List ℕ → List ℕ
counts_built enter cs = 0 ∷ cs
counts_built leave (c ∷ cs) = cs
counts_built _ cs = cs

-- a concatenation of one part is that part
abbrev pub concat_of : Place → List Expr → Expr
concat_of p (e ∷ []) = e
concat_of p es = record { place = p; kind = expressions.Concat es }

-- the values that each action builds from the newest ones
abbrev pub values_built : Step → List Value → List Value
values_built no_expr vs = perhaps_expr None ∷ vs
values_built some_expr (expr e ∷ vs) = perhaps_expr (Some e) ∷ vs
values_built no_hedge vs = perhaps_expr None ∷ perhaps_expr None ∷ vs
values_built some_when (expr e ∷ vs) = perhaps_expr None ∷ perhaps_expr (Some e) ∷ vs
values_built some_guess (expr e ∷ vs) = perhaps_expr (Some e) ∷ perhaps_expr None ∷ vs
values_built no_name vs = perhaps_named None ∷ vs
values_built some_name (named n ∷ vs) = perhaps_named (Some n) ∷ vs
values_built no_number vs = perhaps_number None ∷ vs
values_built some_number (number n ∷ vs) = perhaps_number (Some n) ∷ vs
values_built no_exprs vs = exprs [] ∷ vs
values_built one_expr (expr e ∷ exprs es ∷ vs) = exprs (es ++ e ∷ []) ∷ vs
values_built make_choice (expr b ∷ expr a ∷ place p ∷ expr test ∷ vs) = expr (record { place = p; kind = expressions.Mux test a b }) ∷ vs
values_built (make_binary op) (expr b ∷ place p ∷ expr a ∷ vs) = expr (record { place = p; kind = expressions.Binary op a b }) ∷ vs
values_built make_not (expr e ∷ place p ∷ vs) = expr (record { place = p; kind = expressions.Not e }) ∷ vs
values_built same_bit (number hi ∷ vs) = number hi ∷ number hi ∷ vs
values_built make_slice (number lo ∷ number hi ∷ place p ∷ expr e ∷ vs) = expr (record { place = p; kind = expressions.Slice e hi.value lo.value }) ∷ vs
values_built make_literal (literal l ∷ vs) = expr (record { place = l.at; kind = leaves.Lit l.literal }) ∷ vs
values_built make_name (named n ∷ vs) = expr (record { place = n.at; kind = leaves.Name n.name }) ∷ vs
values_built make_call (exprs es ∷ named n ∷ vs) = expr (record { place = n.at; kind = expressions.Call n.name es }) ∷ vs
values_built make_concat (exprs es ∷ place p ∷ vs) = expr (concat_of p es) ∷ vs
values_built make_zext (number w ∷ expr e ∷ place p ∷ vs) = expr (record { place = p; kind = expressions.Zext e w }) ∷ vs
values_built make_sext (number w ∷ expr e ∷ place p ∷ vs) = expr (record { place = p; kind = expressions.Sext e w }) ∷ vs
values_built make_param (number w ∷ named n ∷ vs) = param (record { name = n; width = w }) ∷ vs
values_built no_params vs = params [] ∷ vs
values_built one_param (param p ∷ params ps ∷ vs) = params (ps ++ p ∷ []) ∷ vs
values_built make_reg (literal l ∷ param p ∷ vs) = decl (declarations.Reg p.name p.width l) ∷ vs
values_built make_file (number a ∷ param p ∷ vs) = decl (declarations.File p.name p.width a) ∷ vs
values_built make_pipe (param p ∷ vs) = decl (declarations.Pipe p.name p.width) ∷ vs
values_built make_result (number s ∷ perhaps_named g ∷ perhaps_named a ∷ named t ∷ param p ∷ vs) =
    decl (declarations.Target (record { name = p.name; width = p.width; target = t; address = a; enable = g; stage = s })) ∷ vs
values_built make_hint (literal l ∷ param p ∷ vs) = decl (declarations.Hint p.name p.width l) ∷ vs
values_built make_sample (number s ∷ param p ∷ vs) = decl (declarations.Sample p.name p.width s) ∷ vs
values_built make_fn (expr e ∷ number w ∷ params ps ∷ named n ∷ vs) = decl (declarations.Func (record { name = n; params = ps; width = w; body = e })) ∷ vs
values_built no_decls vs = decls [] ∷ vs
values_built one_decl (decl d ∷ decls ds ∷ vs) = decls (ds ++ d ∷ []) ∷ vs
values_built make_read (perhaps_expr g ∷ perhaps_expr w ∷ perhaps_expr a ∷ named t ∷ named n ∷ place p ∷ vs) =
    stmt (record { at = p; kind = statements.Read (record { name = n; target = t; address = a; when = w; guess = g }) }) ∷ vs
values_built make_let (expr e ∷ named n ∷ place p ∷ vs) = stmt (record { at = p; kind = statements.Let n e }) ∷ vs
values_built make_put (expr e ∷ named n ∷ place p ∷ vs) = stmt (record { at = p; kind = statements.Put n e }) ∷ vs
values_built make_set (perhaps_expr w ∷ expr e ∷ named n ∷ place p ∷ vs) = stmt (record { at = p; kind = statements.Set n e w }) ∷ vs
values_built make_aim (expr e ∷ named n ∷ place p ∷ vs) = stmt (record { at = p; kind = statements.Aim n e }) ∷ vs
values_built no_stmts vs = stmts [] ∷ vs
values_built one_stmt (stmt x ∷ stmts xs ∷ vs) = stmts (xs ++ x ∷ []) ∷ vs
values_built make_block (stmts xs ∷ number k ∷ vs) = block (record { number = k; stmts = xs }) ∷ vs
values_built no_blocks vs = blocks [] ∷ vs
values_built one_block (block b ∷ blocks bs ∷ vs) = blocks (bs ++ b ∷ []) ∷ vs
values_built no_literals vs = literals [] ∷ vs
values_built one_literal (literal l ∷ literals ls ∷ vs) = literals (ls ++ l ∷ []) ∷ vs
values_built make_image (literals ls ∷ perhaps_number a ∷ named n ∷ vs) = image (record { name = n; address = a; values = ls }) ∷ vs
values_built no_images vs = images [] ∷ vs
values_built one_image (image i ∷ images is ∷ vs) = images (is ++ i ∷ []) ∷ vs
values_built no_image_section vs = perhaps_images None ∷ vs
values_built image_section (images is ∷ vs) = perhaps_images (Some is) ∷ vs
values_built make_stall (perhaps_number p ∷ number b ∷ number a ∷ number s ∷ vs) = stall (record { stage = s; «from» = a; to = b; step = p }) ∷ vs
values_built no_stalls vs = stalls [] ∷ vs
values_built one_stall (stall s ∷ stalls ss ∷ vs) = stalls (ss ++ s ∷ []) ∷ vs
values_built no_stall_section vs = perhaps_stalls None ∷ vs
values_built stall_section (stalls ss ∷ vs) = perhaps_stalls (Some ss) ∷ vs
values_built make_input (perhaps_number p ∷ number b ∷ number a ∷ literal l ∷ named n ∷ vs) = input (record { name = n; value = l; «from» = a; to = b; step = p }) ∷ vs
values_built no_inputs vs = inputs [] ∷ vs
values_built one_input (input i ∷ inputs is ∷ vs) = inputs (is ++ i ∷ []) ∷ vs
values_built no_input_section vs = perhaps_inputs None ∷ vs
values_built input_section (inputs is ∷ vs) = perhaps_inputs (Some is) ∷ vs
values_built make_job (perhaps_inputs ii ∷ perhaps_stalls st ∷ perhaps_images im ∷ blocks bs ∷ decls ds ∷ number k ∷ named n ∷ vs) =
    job (record { name = n; stages = k; decls = ds; blocks = bs; image = im; stalls = st; inputs = ii }) ∷ vs
values_built _ vs = vs

abbrev pub build_step : Step → State → State
build_step a v = record { counts = counts_built a v.counts; over = v.over; values = values_built a v.values }

abbrev pub language : Grammar Way Step Lexeme State
language = record { class = λ t. kind_class t.kind; rules = rules; reads = read_token; builds = build_step }
