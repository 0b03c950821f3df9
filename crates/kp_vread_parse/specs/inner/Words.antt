-- The tokens that parts of a module start with, and parts of a module that the grammar has no name for.
use Rattle.std.specs.Prelude.{ℕ, List, [], ◌∷◌, ◌++◌}
use Rattle.kp_grammar.specs.Grammar.{Terminal, Nonterminal, Action}
use Rattle.kp_vlog.specs.declared.token.Keyword.TheVariants as keywords
use Rattle.kp_vlog.specs.Language.{Sym, dropped, word, mark, ID, NUM, LIT, keyword_class, mark_class, IDENTIFIER, WIRE, PORT, STALLS, SAMPLES, ITEMS, RIGHT, INITS, BODY, VALUES, UPDATES, no_ports, no_items, make_assign, two_names, no_inits, no_values, no_updates, first_update, update_reg, update_file}
use Rattle.kp_vread_parse.specs.declared.tokens.Fixed.{Fixed}
use Rattle.kp_vread_parse.specs.declared.tokens.Fixed.TheVariants as fixed
use Rattle.kp_vlog.specs.declared.token.Mark.TheVariants as marks

-- a token without a value, as a symbol
abbrev pub class_of : Fixed → ℕ
class_of (fixed.Word k) = keyword_class k
class_of (fixed.Sign m) = mark_class m

abbrev pub symbol : Fixed → Sym
symbol f = Terminal (class_of f) dropped

-- what an item starts with
abbrev pub item_words : List ℕ
item_words = keyword_class keywords.Reg ∷ keyword_class keywords.Integer ∷ keyword_class keywords.Wire ∷ keyword_class keywords.Assign ∷ []

-- what a line of the `initial` block starts with
abbrev pub init_words : List ℕ
init_words = IDENTIFIER ∷ keyword_class keywords.For ∷ []

-- what an update starts with
abbrev pub update_words : List ℕ
update_words = IDENTIFIER ∷ keyword_class keywords.If ∷ []

abbrev pub operator_classes : List ℕ
operator_classes = mark_class marks.Ampersand ∷ mark_class marks.Bar ∷ mark_class marks.Caret ∷ mark_class marks.Plus ∷ mark_class marks.Minus ∷ mark_class marks.Star ∷ mark_class marks.EqualsEquals ∷ mark_class marks.Less ∷ mark_class marks.ShiftLeft ∷ mark_class marks.ShiftRight ∷ []

-- the loop that fills a file: `for (counter = from;`, `tested < limit;`, `stepped = old + by)` and `file[index] = value;`
abbrev pub FILL_FROM : List Sym
FILL_FROM = word keywords.For ∷ mark marks.OpenParenthesis ∷ ID ∷ mark marks.Equals ∷ NUM ∷ mark marks.Semicolon ∷ []

abbrev pub FILL_LIMIT : List Sym
FILL_LIMIT = ID ∷ mark marks.Less ∷ NUM ∷ mark marks.Semicolon ∷ []

abbrev pub FILL_STEP : List Sym
FILL_STEP = ID ∷ mark marks.Equals ∷ ID ∷ mark marks.Plus ∷ NUM ∷ mark marks.CloseParenthesis ∷ []

abbrev pub FILL_WORD : List Sym
FILL_WORD = ID ∷ mark marks.OpenBracket ∷ ID ∷ mark marks.CloseBracket ∷ mark marks.Equals ∷ LIT ∷ mark marks.Semicolon ∷ []

-- an assignment
abbrev pub ASSIGNMENT : List Sym
ASSIGNMENT = word keywords.Assign ∷ ID ∷ mark marks.Equals ∷ Nonterminal RIGHT ∷ mark marks.Semicolon ∷ Action make_assign ∷ []

-- the first two names of a concatenation
abbrev pub TWO_NAMES : List Sym
TWO_NAMES = ID ∷ mark marks.Comma ∷ ID ∷ Action two_names ∷ []

-- `if (name)`
abbrev pub TEST : List Sym
TEST = word keywords.If ∷ mark marks.OpenParenthesis ∷ ID ∷ mark marks.CloseParenthesis ∷ []

-- the values of the reset list, from `begin` to `end`
abbrev pub RESET_VALUES : List Sym
RESET_VALUES = word keywords.Begin ∷ Action no_values ∷ Nonterminal VALUES ∷ word keywords.End ∷ []

-- the updates if there is no reset, from `else` to `end`
abbrev pub OTHERS : List Sym
OTHERS = word keywords.Else ∷ word keywords.Begin ∷ Action no_updates ∷ Nonterminal UPDATES ∷ word keywords.End ∷ []

-- an update of a register, and one of a file after its test
abbrev pub REG_UPDATE : List Sym
REG_UPDATE = ID ∷ mark marks.Arrow ∷ ID ∷ mark marks.Semicolon ∷ Action update_reg ∷ []

abbrev pub FILE_UPDATE : List Sym
FILE_UPDATE = ID ∷ mark marks.OpenBracket ∷ ID ∷ mark marks.CloseBracket ∷ mark marks.Arrow ∷ ID ∷ mark marks.Semicolon ∷ Action update_file ∷ []

-- the updates after the first one, if there is no reset list
abbrev pub FIRST : List Sym
FIRST = Action first_update ∷ Nonterminal UPDATES ∷ []

-- `module`, the name and the clock, up to the port after it
abbrev pub HEAD : List Sym
HEAD = word keywords.Module ∷ ID ∷ mark marks.OpenParenthesis ∷ word keywords.Input ∷ Nonterminal WIRE ∷ ID ∷ mark marks.Comma ∷ word keywords.Input ∷ Nonterminal WIRE ∷ []

-- `module` and the name, up to the sample ports
abbrev pub INPUTS : List Sym
INPUTS = HEAD ++ (Nonterminal STALLS ∷ Action no_ports ∷ Nonterminal SAMPLES ∷ [])

-- the outputs, up to the semicolon
abbrev pub OUTPUTS : List Sym
OUTPUTS = word keywords.Output ∷ Nonterminal PORT ∷ mark marks.Comma ∷ word keywords.Output ∷ Nonterminal PORT ∷ mark marks.Comma ∷ word keywords.Output ∷ Nonterminal PORT ∷ mark marks.CloseParenthesis ∷ mark marks.Semicolon ∷ []

-- the `initial` block, from this keyword to `end`
abbrev pub STARTS : List Sym
STARTS = word keywords.Initial ∷ word keywords.Begin ∷ Action no_inits ∷ Nonterminal INITS ∷ word keywords.End ∷ []

-- the items, and the `initial` block
abbrev pub LINES : List Sym
LINES = Action no_items ∷ Nonterminal ITEMS ∷ STARTS

-- the block with the updates at the clock edge, up to the end
abbrev pub EDGE : List Sym
EDGE = word keywords.Always ∷ mark marks.At ∷ mark marks.OpenParenthesis ∷ word keywords.Posedge ∷ ID ∷ mark marks.CloseParenthesis ∷ word keywords.Begin ∷ Nonterminal BODY ∷ word keywords.End ∷ word keywords.Endmodule ∷ []
