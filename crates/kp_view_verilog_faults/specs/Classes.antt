-- Classes of tokens, and sets of them.
use Rattle.std.specs.Prelude.{ℕ, ◌≡◌, slice_get, List, [], ◌∷◌, Some, true}
use Rattle.kp_vlog.specs.Tokens as words
use Rattle.kp_vlog.specs.{Tokens.Word, declared.token.VKind.VKind}
use Rattle.kp_vlog.specs.declared.token.VKind.TheVariants as kinds
use Rattle.kp_vlog.specs.declared.token.Keyword.TheVariants as keywords
use Rattle.kp_vlog.specs.declared.token.Mark.TheVariants as marks
use Rattle.kp_view_verilog_faults.specs.declared.{class.Class.Class, set.Expected.Expected}
use Rattle.kp_view_verilog_faults.specs.declared.class.Class.TheVariants as classes

-- the class of a token, by its kind in code, and by its value
abbrev pub class_of : VKind → Class
class_of kinds.Ident = classes.Name
class_of (kinds.Number n) = classes.Number
class_of (kinds.Literal l) = classes.Literal
class_of (kinds.Keyword k) = classes.Keyword k
class_of (kinds.Mark m) = classes.Mark m

abbrev pub class_in : Word → Class
class_in (words.name bytes) = classes.Name
class_in (words.number n) = classes.Number
class_in (words.literal l) = classes.Literal
class_in (words.keyword k) = classes.Keyword k
class_in (words.mark m) = classes.Mark m

-- all classes, in the order of messages
abbrev pub all_classes : List Class
all_classes =
    classes.Keyword keywords.Module ∷ classes.Keyword keywords.Input ∷ classes.Keyword keywords.Output ∷ classes.Keyword keywords.Wire ∷ classes.Keyword keywords.Reg ∷ classes.Keyword keywords.Integer ∷ classes.Keyword keywords.Assign ∷ classes.Keyword keywords.Initial
    ∷ classes.Keyword keywords.Begin ∷ classes.Keyword keywords.End ∷ classes.Keyword keywords.For ∷ classes.Keyword keywords.Always ∷ classes.Keyword keywords.Posedge ∷ classes.Keyword keywords.If ∷ classes.Keyword keywords.Else ∷ classes.Keyword keywords.Endmodule
    ∷ classes.Mark marks.Semicolon ∷ classes.Mark marks.Colon ∷ classes.Mark marks.Comma ∷ classes.Mark marks.Equals ∷ classes.Mark marks.Arrow ∷ classes.Mark marks.OpenParenthesis ∷ classes.Mark marks.CloseParenthesis
    ∷ classes.Mark marks.OpenBracket ∷ classes.Mark marks.CloseBracket ∷ classes.Mark marks.OpenBrace ∷ classes.Mark marks.CloseBrace ∷ classes.Mark marks.Tilde ∷ classes.Mark marks.Question ∷ classes.Mark marks.At
    ∷ classes.Mark marks.Less ∷ classes.Mark marks.Plus ∷ classes.Mark marks.ShiftLeft ∷ classes.Mark marks.ShiftRight ∷ classes.Mark marks.EqualsEquals ∷ classes.Mark marks.Minus ∷ classes.Mark marks.Star ∷ classes.Mark marks.Ampersand ∷ classes.Mark marks.Bar ∷ classes.Mark marks.Caret
    ∷ classes.Name ∷ classes.Number ∷ classes.Literal ∷ []

-- the class is among those of the set
abbrev pub Lists : Expected → Class → Type 0
Lists e c = (k : ℕ) × (slice_get all_classes k ≡ Some c) × (slice_get e.listed k ≡ Some true)
