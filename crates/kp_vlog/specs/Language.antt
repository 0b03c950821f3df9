-- The grammar of the Verilog subset, with what it builds.
use Rattle.std.specs.Prelude.{ℕ, zero, suc, ◌+◌, List, [], ◌∷◌, ◌++◌, Option, Some, None}
use Rattle.kp_bits.specs.declared.{operator.BinOp.BinOp, literal.Literal.Literal}
use Rattle.kp_grammar.specs.Grammar.{Symbol, Terminal, Nonterminal, Action, Rules, Grammar}
use Rattle.kp_vlog.specs.declared.{token.Keyword.Keyword, token.Mark.Mark, tree.Num.Num, tree.Lit.Lit, tree.Named.Named, tree.Range.Range, tree.VPort.VPort}
use Rattle.kp_vlog.specs.declared.tree.{Right.Right, Item.Item, Init.Init, ResetValue.ResetValue, ResetList.ResetList, Update.Update, VModule.VModule}
use Rattle.kp_vlog.specs.{Words.operator_mark, Tokens.Word, Tokens.Token}
use Rattle.kp_vlog.specs.declared.token.Keyword.TheVariants as keywords
use Rattle.kp_vlog.specs.declared.token.Mark.TheVariants as marks
use Rattle.kp_vlog.specs.declared.tree.Right.TheVariants as sides
use Rattle.kp_vlog.specs.declared.tree.Item.TheVariants as lines
use Rattle.kp_vlog.specs.declared.tree.Init.TheVariants as starts
use Rattle.kp_vlog.specs.declared.tree.Update.TheVariants as edges
use Rattle.kp_vlog.specs.Tokens as words

-- classes of tokens: an identifier, a number, a literal; each keyword and each punctuator is a class of its own
abbrev pub IDENTIFIER : ℕ
IDENTIFIER = 1

abbrev pub NUMBER : ℕ
NUMBER = 2

abbrev pub LITERAL : ℕ
LITERAL = 3

abbrev pub keyword_class : Keyword → ℕ
keyword_class keywords.Module = 11
keyword_class keywords.Input = 12
keyword_class keywords.Output = 13
keyword_class keywords.Wire = 14
keyword_class keywords.Reg = 15
keyword_class keywords.Integer = 16
keyword_class keywords.Assign = 17
keyword_class keywords.Initial = 18
keyword_class keywords.Begin = 19
keyword_class keywords.End = 20
keyword_class keywords.For = 21
keyword_class keywords.Always = 22
keyword_class keywords.Posedge = 23
keyword_class keywords.If = 24
keyword_class keywords.Else = 25
keyword_class keywords.Endmodule = 26

abbrev pub mark_class : Mark → ℕ
mark_class marks.OpenParenthesis = 31
mark_class marks.CloseParenthesis = 32
mark_class marks.OpenBracket = 33
mark_class marks.CloseBracket = 34
mark_class marks.OpenBrace = 35
mark_class marks.CloseBrace = 36
mark_class marks.Comma = 37
mark_class marks.Semicolon = 38
mark_class marks.Colon = 39
mark_class marks.Equals = 40
mark_class marks.Arrow = 41
mark_class marks.Less = 42
mark_class marks.ShiftLeft = 43
mark_class marks.ShiftRight = 44
mark_class marks.EqualsEquals = 45
mark_class marks.Plus = 46
mark_class marks.Minus = 47
mark_class marks.Star = 48
mark_class marks.Ampersand = 49
mark_class marks.Bar = 50
mark_class marks.Caret = 51
mark_class marks.Tilde = 52
mark_class marks.Question = 53
mark_class marks.At = 54

abbrev pub word_class : Word → ℕ
word_class (words.name bytes) = IDENTIFIER
word_class (words.number n) = NUMBER
word_class (words.literal l) = LITERAL
word_class (words.keyword k) = keyword_class k
word_class (words.mark m) = mark_class m

-- the value of a name, of a number and of a literal in a module
abbrev pub name_in : Word → List ℕ
name_in (words.name bytes) = bytes
name_in _ = []

abbrev pub number_in : Word → ℕ
number_in (words.number n) = n
number_in _ = 0

abbrev pub literal_in : Word → Literal
literal_in (words.literal l) = l
literal_in _ = record { width = 0; value = 0 }

abbrev pub named_of : Token → Named
named_of t = record { name = name_in t.word; at = t.at }

abbrev pub number_of : Token → Num
number_of t = record { value = number_in t.word; at = t.at }

abbrev pub literal_of : Token → Lit
literal_of t = record { literal = literal_in t.word; at = t.at }

-- what has been read and built
pub data Value : Type 0 where
  named : Named → Value
  number : Num → Value
  literal : Lit → Value
  range : Range → Value
  port : VPort → Value
  perhaps_named : Option Named → Value
  ports : List VPort → Value
  names : List Named → Value
  right : Right → Value
  item : Item → Value
  items : List Item → Value
  init : Init → Value
  inits : List Init → Value
  values : List ResetValue → Value
  perhaps_reset : Option ResetList → Value
  update : Update → Value
  updates : List Update → Value
  whole : VModule → Value

-- How a token is read: it is dropped, or its name, its number or its literal is stored.
pub data Way : Type 0 where
  dropped : Way
  as_name : Way
  as_number : Way
  as_literal : Way

-- what is done after a part of the language
pub data Step : Type 0 where
  make_range : Step
  make_port : Step
  no_reset_port : Step
  some_reset_port : Step
  no_ports : Step
  one_port : Step
  make_literal : Step
  make_name : Step
  make_not : Step
  make_binary : BinOp → Step
  make_choice : Step
  make_slice : Step
  make_word : Step
  two_names : Step
  one_name : Step
  make_concat : Step
  make_reg : Step
  make_file : Step
  make_integer : Step
  make_wire : Step
  make_assign : Step
  no_items : Step
  one_item : Step
  init_reg : Step
  init_word : Step
  init_fill : Step
  no_inits : Step
  one_init : Step
  no_values : Step
  one_value : Step
  no_reset : Step
  some_reset : Step
  update_reg : Step
  update_file : Step
  no_updates : Step
  first_update : Step
  one_update : Step
  make_module : Step

abbrev pub Sym : Type 0
Sym = Symbol Way Step

-- Terminals: a keyword or a punctuator, and the tokens with a value.
abbrev pub word : Keyword → Sym
word k = Terminal (keyword_class k) dropped

abbrev pub mark : Mark → Sym
mark m = Terminal (mark_class m) dropped

abbrev pub ID : Sym
ID = Terminal IDENTIFIER as_name

abbrev pub NUM : Sym
NUM = Terminal NUMBER as_number

abbrev pub LIT : Sym
LIT = Terminal LITERAL as_literal

-- Names.
abbrev pub MODULE : ℕ
MODULE = 1

abbrev pub WIRE : ℕ
WIRE = 2

abbrev pub RANGE : ℕ
RANGE = 3

abbrev pub PORT : ℕ
PORT = 4

abbrev pub STALLS : ℕ
STALLS = 5

abbrev pub SAMPLES : ℕ
SAMPLES = 6

abbrev pub ITEMS : ℕ
ITEMS = 7

abbrev pub ITEM : ℕ
ITEM = 8

abbrev pub DECLARED : ℕ
DECLARED = 9

abbrev pub RIGHT : ℕ
RIGHT = 10

abbrev pub BEHIND : ℕ
BEHIND = 11

abbrev pub INDEX : ℕ
INDEX = 12

abbrev pub INITS : ℕ
INITS = 13

abbrev pub INIT : ℕ
INIT = 14

abbrev pub START : ℕ
START = 15

abbrev pub BODY : ℕ
BODY = 16

abbrev pub CONDITION : ℕ
CONDITION = 17

abbrev pub VALUES : ℕ
VALUES = 18

abbrev pub UPDATES : ℕ
UPDATES = 19

abbrev pub UPDATE : ℕ
UPDATE = 20

-- at most this number of names may follow in a concatenation
abbrev pub NAMES : ℕ → ℕ
NAMES count = 30 + count

abbrev N : ℕ → Sym
N n = Nonterminal n

abbrev A : Step → Sym
A a = Action a

-- an operator and its right operand
abbrev operation : BinOp → List Sym
operation op = mark (operator_mark op) ∷ ID ∷ A (make_binary op) ∷ []

-- the next names of a concatenation, at most the given number
abbrev pub more_names : ℕ → Rules Way Step
more_names zero = (NAMES zero, [] ∷ []) ∷ []
more_names (suc count) = (NAMES (suc count), (mark marks.Comma ∷ ID ∷ A one_name ∷ N (NAMES count) ∷ []) ∷ [] ∷ []) ∷ more_names count

abbrev pub rules : Rules Way Step
rules = (
  MODULE,
  (word keywords.Module ∷ ID ∷ mark marks.OpenParenthesis ∷ word keywords.Input ∷ N WIRE ∷ ID ∷ mark marks.Comma
      ∷ word keywords.Input ∷ N WIRE ∷ N STALLS ∷ A no_ports ∷ N SAMPLES
      ∷ word keywords.Output ∷ N PORT ∷ mark marks.Comma ∷ word keywords.Output ∷ N PORT ∷ mark marks.Comma ∷ word keywords.Output ∷ N PORT
      ∷ mark marks.CloseParenthesis ∷ mark marks.Semicolon
      ∷ A no_items ∷ N ITEMS
      ∷ word keywords.Initial ∷ word keywords.Begin ∷ A no_inits ∷ N INITS ∷ word keywords.End
      ∷ word keywords.Always ∷ mark marks.At ∷ mark marks.OpenParenthesis ∷ word keywords.Posedge ∷ ID ∷ mark marks.CloseParenthesis ∷ word keywords.Begin ∷ N BODY ∷ word keywords.End
      ∷ word keywords.Endmodule ∷ A make_module ∷ []) ∷ [],
)
    ∷ (WIRE, (word keywords.Wire ∷ []) ∷ [] ∷ [])
    ∷ (RANGE, (mark marks.OpenBracket ∷ NUM ∷ mark marks.Colon ∷ NUM ∷ mark marks.CloseBracket ∷ A make_range ∷ []) ∷ [])
    ∷ (PORT, (N WIRE ∷ N RANGE ∷ ID ∷ A make_port ∷ []) ∷ [])
    ∷ (
      STALLS,
      (ID ∷ A some_reset_port ∷ mark marks.Comma ∷ word keywords.Input ∷ N PORT ∷ mark marks.Comma ∷ [])
          ∷ (A no_reset_port ∷ N RANGE ∷ ID ∷ A make_port ∷ mark marks.Comma ∷ []) ∷ [],
    )
    ∷ (SAMPLES, (word keywords.Input ∷ N PORT ∷ mark marks.Comma ∷ A one_port ∷ N SAMPLES ∷ []) ∷ [] ∷ [])
    ∷ (ITEMS, (N ITEM ∷ A one_item ∷ N ITEMS ∷ []) ∷ [] ∷ [])
    ∷ (
      ITEM,
      (word keywords.Reg ∷ N RANGE ∷ ID ∷ N DECLARED ∷ [])
          ∷ (word keywords.Integer ∷ ID ∷ mark marks.Semicolon ∷ A make_integer ∷ [])
          ∷ (word keywords.Wire ∷ N RANGE ∷ ID ∷ mark marks.Semicolon ∷ A make_wire ∷ [])
          ∷ (word keywords.Assign ∷ ID ∷ mark marks.Equals ∷ N RIGHT ∷ mark marks.Semicolon ∷ A make_assign ∷ []) ∷ [],
    )
    ∷ (DECLARED, (N RANGE ∷ mark marks.Semicolon ∷ A make_file ∷ []) ∷ (mark marks.Semicolon ∷ A make_reg ∷ []) ∷ [])
    ∷ (
      RIGHT,
      (LIT ∷ A make_literal ∷ [])
          ∷ (mark marks.Tilde ∷ ID ∷ A make_not ∷ [])
          ∷ (mark marks.OpenBrace ∷ ID ∷ mark marks.Comma ∷ ID ∷ A two_names ∷ N (NAMES 10) ∷ mark marks.CloseBrace ∷ A make_concat ∷ [])
          ∷ (ID ∷ N BEHIND ∷ []) ∷ [],
    )
    ∷ (
      BEHIND,
      operation BinOp.And
          ∷ operation BinOp.Or
          ∷ operation BinOp.Xor
          ∷ operation BinOp.Add
          ∷ operation BinOp.Sub
          ∷ operation BinOp.Mul
          ∷ operation BinOp.Eq
          ∷ operation BinOp.Lt
          ∷ operation BinOp.Shl
          ∷ operation BinOp.Shr
          ∷ (mark marks.Question ∷ ID ∷ mark marks.Colon ∷ ID ∷ A make_choice ∷ [])
          ∷ (mark marks.OpenBracket ∷ N INDEX ∷ [])
          ∷ (A make_name ∷ []) ∷ [],
    )
    ∷ (INDEX, (NUM ∷ mark marks.Colon ∷ NUM ∷ mark marks.CloseBracket ∷ A make_slice ∷ []) ∷ (ID ∷ mark marks.CloseBracket ∷ A make_word ∷ []) ∷ [])
    ∷ (INITS, (N INIT ∷ A one_init ∷ N INITS ∷ []) ∷ [] ∷ [])
    ∷ (
      INIT,
      (word keywords.For ∷ mark marks.OpenParenthesis ∷ ID ∷ mark marks.Equals ∷ NUM ∷ mark marks.Semicolon ∷ ID ∷ mark marks.Less ∷ NUM ∷ mark marks.Semicolon
          ∷ ID ∷ mark marks.Equals ∷ ID ∷ mark marks.Plus ∷ NUM ∷ mark marks.CloseParenthesis
          ∷ ID ∷ mark marks.OpenBracket ∷ ID ∷ mark marks.CloseBracket ∷ mark marks.Equals ∷ LIT ∷ mark marks.Semicolon ∷ A init_fill ∷ [])
          ∷ (ID ∷ N START ∷ []) ∷ [],
    )
    ∷ (
      START,
      (mark marks.Equals ∷ LIT ∷ mark marks.Semicolon ∷ A init_reg ∷ [])
          ∷ (mark marks.OpenBracket ∷ NUM ∷ mark marks.CloseBracket ∷ mark marks.Equals ∷ LIT ∷ mark marks.Semicolon ∷ A init_word ∷ []) ∷ [],
    )
    ∷ (
      BODY,
      (word keywords.If ∷ mark marks.OpenParenthesis ∷ ID ∷ mark marks.CloseParenthesis ∷ N CONDITION ∷ [])
          ∷ (ID ∷ mark marks.Arrow ∷ ID ∷ mark marks.Semicolon ∷ A update_reg ∷ A first_update ∷ N UPDATES ∷ [])
          ∷ (A no_reset ∷ A no_updates ∷ []) ∷ [],
    )
    ∷ (
      CONDITION,
      (word keywords.Begin ∷ A no_values ∷ N VALUES ∷ word keywords.End ∷ A some_reset ∷ word keywords.Else ∷ word keywords.Begin ∷ A no_updates ∷ N UPDATES ∷ word keywords.End ∷ [])
          ∷ (ID ∷ mark marks.OpenBracket ∷ ID ∷ mark marks.CloseBracket ∷ mark marks.Arrow ∷ ID ∷ mark marks.Semicolon ∷ A update_file ∷ A first_update ∷ N UPDATES ∷ []) ∷ [],
    )
    ∷ (VALUES, (ID ∷ mark marks.Arrow ∷ LIT ∷ mark marks.Semicolon ∷ A one_value ∷ N VALUES ∷ []) ∷ [] ∷ [])
    ∷ (UPDATES, (N UPDATE ∷ A one_update ∷ N UPDATES ∷ []) ∷ [] ∷ [])
    ∷ (
      UPDATE,
      (word keywords.If ∷ mark marks.OpenParenthesis ∷ ID ∷ mark marks.CloseParenthesis ∷ ID ∷ mark marks.OpenBracket ∷ ID ∷ mark marks.CloseBracket ∷ mark marks.Arrow ∷ ID
          ∷ mark marks.Semicolon ∷ A update_file ∷ [])
          ∷ (ID ∷ mark marks.Arrow ∷ ID ∷ mark marks.Semicolon ∷ A update_reg ∷ []) ∷ [],
    )
    ∷ more_names 10

abbrev pub read_token : Way → Token → List Value → List Value
read_token dropped t vs = vs
read_token as_name t vs = named (named_of t) ∷ vs
read_token as_number t vs = number (number_of t) ∷ vs
read_token as_literal t vs = literal (literal_of t) ∷ vs

abbrev pub built : Step → List Value → List Value
built make_range (number low ∷ number high ∷ vs) = range (record { high = high; low = low }) ∷ vs
built make_port (named n ∷ range r ∷ vs) = port (record { range = r; port = n }) ∷ vs
built no_reset_port vs = perhaps_named None ∷ vs
built some_reset_port (named n ∷ vs) = perhaps_named (Some n) ∷ vs
built no_ports vs = ports [] ∷ vs
built one_port (port p ∷ ports ps ∷ vs) = ports (ps ++ p ∷ []) ∷ vs
built make_literal (literal l ∷ vs) = right (sides.Literal l) ∷ vs
built make_name (named n ∷ vs) = right (sides.Name n) ∷ vs
built make_not (named a ∷ vs) = right (sides.Not a) ∷ vs
built (make_binary op) (named b ∷ named a ∷ vs) = right (sides.Binary op a b) ∷ vs
built make_choice (named b ∷ named a ∷ named t ∷ vs) = right (sides.Choice t a b) ∷ vs
built make_slice (number low ∷ number high ∷ named a ∷ vs) = right (sides.Slice a high low) ∷ vs
built make_word (named a ∷ named f ∷ vs) = right (sides.Word f a) ∷ vs
built two_names (named b ∷ named a ∷ vs) = names (a ∷ b ∷ []) ∷ vs
built one_name (named a ∷ names xs ∷ vs) = names (xs ++ a ∷ []) ∷ vs
built make_concat (names xs ∷ vs) = right (sides.Concat xs) ∷ vs
built make_reg (named n ∷ range r ∷ vs) = item (lines.Reg r n) ∷ vs
built make_file (range w ∷ named n ∷ range r ∷ vs) = item (lines.File r n w) ∷ vs
built make_integer (named n ∷ vs) = item (lines.Integer n) ∷ vs
built make_wire (named n ∷ range r ∷ vs) = item (lines.Wire r n) ∷ vs
built make_assign (right r ∷ named n ∷ vs) = item (lines.Assign n r) ∷ vs
built no_items vs = items [] ∷ vs
built one_item (item x ∷ items xs ∷ vs) = items (xs ++ x ∷ []) ∷ vs
built init_reg (literal l ∷ named n ∷ vs) = init (starts.Reg n l) ∷ vs
built init_word (literal l ∷ number i ∷ named n ∷ vs) = init (starts.Word n i l) ∷ vs
built init_fill (literal l ∷ named index ∷ named file ∷ number by ∷ named old ∷ named stepped ∷ number limit ∷ named tested ∷ number from ∷ named counter ∷ vs) =
    init (starts.Fill (record {
      counter = counter;
      from = from;
      tested = tested;
      limit = limit;
      stepped = stepped;
      old = old;
      by = by;
      file = file;
      index = index;
      value = l;
    })) ∷ vs
built no_inits vs = inits [] ∷ vs
built one_init (init x ∷ inits xs ∷ vs) = inits (xs ++ x ∷ []) ∷ vs
built no_values vs = values [] ∷ vs
built one_value (literal l ∷ named n ∷ values xs ∷ vs) = values (xs ++ record { name = n; value = l } ∷ []) ∷ vs
built no_reset vs = perhaps_reset None ∷ vs
built some_reset (values xs ∷ named n ∷ vs) = perhaps_reset (Some (record { reset = n; values = xs })) ∷ vs
built update_reg (named v ∷ named n ∷ vs) = update (edges.Reg n v) ∷ vs
built update_file (named v ∷ named a ∷ named f ∷ named t ∷ vs) = update (edges.File t f a v) ∷ vs
built no_updates vs = updates [] ∷ vs
built first_update (update u ∷ vs) = updates (u ∷ []) ∷ perhaps_reset None ∷ vs
built one_update (update u ∷ updates us ∷ vs) = updates (us ++ u ∷ []) ∷ vs
built make_module (updates us ∷ perhaps_reset r ∷ named clock ∷ inits is ∷ items xs ∷ port back ∷ port ue ∷ port full ∷ ports ss ∷ port ext ∷ perhaps_named rst ∷ named clk ∷ named n ∷ vs) =
    whole (record {
      name = n;
      clk = clk;
      rst = rst;
      ext = ext;
      samples = ss;
      full = full;
      ue = ue;
      back = back;
      items = xs;
      inits = is;
      clock = clock;
      reset = r;
      updates = us;
    }) ∷ vs
built _ vs = vs

abbrev pub verilog : Grammar Way Step Token (List Value)
verilog = record { class = λ t. word_class t.word; rules = rules; reads = read_token; builds = built }
