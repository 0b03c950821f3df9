-- What the grammar sees of a token: its kind, its position, and its bytes.
use Rattle.std.specs.Prelude.{ℕ, ◌+◌, ◌≤◌, ◌≡◌, List, map, take, drop, length}
use Rattle.kp_base.specs.declared.place.Place.{Place}
use Rattle.kp_ast.specs.{Name.IsName, declared.tree.Named.Named, declared.tree.Num.Num, declared.tree.Lit.Lit}
use Rattle.kp_bits.specs.declared.literal.Literal.{Literal}
use Rattle.kp_lex.specs.declared.token.{Keyword.Keyword, Mark.Mark, TokenKind.TokenKind, Token.Token}
use Rattle.kp_lex.specs.declared.token.Keyword.TheVariants as keywords
use Rattle.kp_lex.specs.declared.token.Mark.TheVariants as marks
use Rattle.kp_lex.specs.declared.token.TokenKind.TheVariants as kinds

-- a token with its bytes
pub record Lexeme : Type 0 where
  pub kind : TokenKind
  pub place : Place
  pub bytes : List ℕ

-- the bytes of a token
abbrev pub spelled : List ℕ → Token → List ℕ
spelled text t = take t.len (drop t.start text)

abbrev pub lexeme_of : List ℕ → Token → Lexeme
lexeme_of text t = record { kind = t.kind; place = t.place; bytes = spelled text t }

abbrev pub lexemes : List ℕ → List Token → List Lexeme
lexemes text tokens = map (lexeme_of text) tokens

-- a token is within the text, and an identifier has the form of a name
pub record IsSpelled (text : List ℕ) (t : Token) : Type 0 where
  pub within : t.start + t.len ≤ length text
  pub name : t.kind ≡ kinds.Ident → IsName (spelled text t)

-- classes of tokens: an identifier, a number, a literal; each keyword and each punctuator is a class of its own
abbrev pub IDENTIFIER : ℕ
IDENTIFIER = 1

abbrev pub NUMBER : ℕ
NUMBER = 2

abbrev pub LITERAL : ℕ
LITERAL = 3

abbrev pub keyword_class : Keyword → ℕ
keyword_class keywords.Machine = 11
keyword_class keywords.Stages = 12
keyword_class keywords.Reg = 13
keyword_class keywords.File = 14
keyword_class keywords.Pipe = 15
keyword_class keywords.Result = 16
keyword_class keywords.Hint = 17
keyword_class keywords.Fn = 18
keyword_class keywords.Stage = 19
keyword_class keywords.Read = 20
keyword_class keywords.Let = 21
keyword_class keywords.Put = 22
keyword_class keywords.Set = 23
keyword_class keywords.Aim = 24
keyword_class keywords.Image = 25
keyword_class keywords.Stalls = 26
keyword_class keywords.End = 27
keyword_class keywords.At = 28
keyword_class keywords.When = 29
keyword_class keywords.Guess = 30
keyword_class keywords.From = 31
keyword_class keywords.To = 32
keyword_class keywords.Step = 33
keyword_class keywords.Zext = 34
keyword_class keywords.Sext = 35
keyword_class keywords.Sample = 36
keyword_class keywords.Inputs = 37

abbrev pub mark_class : Mark → ℕ
mark_class marks.Semicolon = 41
mark_class marks.Colon = 42
mark_class marks.Comma = 43
mark_class marks.Equals = 44
mark_class marks.OpenParenthesis = 45
mark_class marks.CloseParenthesis = 46
mark_class marks.OpenBracket = 47
mark_class marks.CloseBracket = 48
mark_class marks.OpenBrace = 49
mark_class marks.CloseBrace = 50
mark_class marks.Question = 51
mark_class marks.Tilde = 52
mark_class marks.Star = 53
mark_class marks.Plus = 54
mark_class marks.Minus = 55
mark_class marks.Ampersand = 56
mark_class marks.Caret = 57
mark_class marks.Bar = 58
mark_class marks.Less = 59
mark_class marks.ShiftLeft = 60
mark_class marks.ShiftRight = 61
mark_class marks.EqualsEquals = 62
mark_class marks.Arrow = 63

abbrev pub kind_class : TokenKind → ℕ
kind_class kinds.Ident = IDENTIFIER
kind_class (kinds.Number n) = NUMBER
kind_class (kinds.Literal l) = LITERAL
kind_class (kinds.Keyword k) = keyword_class k
kind_class (kinds.Mark m) = mark_class m

-- the tree nodes of a name, a number and a literal
abbrev pub named_of : Lexeme → Named
named_of t = record { name = t.bytes; at = t.place }

abbrev pub number_in : TokenKind → ℕ
number_in (kinds.Number n) = n
number_in _ = 0

abbrev pub number_of : Lexeme → Num
number_of t = record { value = number_in t.kind; at = t.place }

abbrev pub literal_in : TokenKind → Literal
literal_in (kinds.Literal l) = l
literal_in _ = record { width = 0; value = 0 }

abbrev pub literal_of : Lexeme → Lit
literal_of t = record { literal = literal_in t.kind; at = t.place }
