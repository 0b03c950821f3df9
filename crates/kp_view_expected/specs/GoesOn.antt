-- The tokens with which some description goes on.
use Rattle.std.specs.Prelude.{ℕ, ◌≡◌, List, [], ◌∷◌, ◌++◌, map, slice_get, Some, true}
use Rattle.kp_grammar.specs.Grammar.{IsSentence}
use Rattle.kp_lex.specs.{Words.all_keywords, declared.token.TokenKind.TokenKind}
use Rattle.kp_parse_grammar.specs.{Tokens.Lexeme, Language.State, Language.language, Language.JOB, Language.at}
use Rattle.kp_lex.specs.declared.token.TokenKind.TheVariants as kinds
use Rattle.kp_lex.specs.declared.token.Mark.TheVariants as marks
use Rattle.kp_view_expected.specs.declared.{token_class.TokenClass.TokenClass, set.Expected.Expected}
use Rattle.kp_view_expected.specs.declared.token_class.TokenClass.TheVariants as classes

-- the class of a token
abbrev pub class_of : TokenKind → TokenClass
class_of kinds.Ident = classes.Name
class_of (kinds.Number n) = classes.Number
class_of (kinds.Literal l) = classes.Literal
class_of (kinds.Keyword k) = classes.Keyword k
class_of (kinds.Mark m) = classes.Mark m

-- Some description begins with these tokens, and this one after them: they begin a sentence of the grammar.
abbrev pub GoesOn : List Lexeme → Lexeme → Type 0
GoesOn front t = (rest : List Lexeme) × (built : State) × IsSentence language JOB (at [] []) (front ++ t ∷ rest) built

-- all classes, in the order of messages
abbrev pub all_classes : List TokenClass
all_classes =
    map classes.Keyword all_keywords
    ++ (classes.Mark marks.Semicolon ∷ classes.Mark marks.Colon ∷ classes.Mark marks.Comma ∷ classes.Mark marks.Equals ∷ classes.Mark marks.Arrow ∷ classes.Mark marks.OpenParenthesis ∷ classes.Mark marks.CloseParenthesis ∷ classes.Mark marks.OpenBracket ∷ classes.Mark marks.CloseBracket ∷ classes.Mark marks.OpenBrace ∷ classes.Mark marks.CloseBrace ∷ classes.Mark marks.Question ∷ classes.Mark marks.Tilde ∷ classes.Mark marks.Star ∷ classes.Mark marks.Plus ∷ classes.Mark marks.Minus ∷ classes.Mark marks.Ampersand ∷ classes.Mark marks.Caret ∷ classes.Mark marks.Bar ∷ classes.Mark marks.Less ∷ classes.Mark marks.ShiftLeft ∷ classes.Mark marks.ShiftRight ∷ classes.Mark marks.EqualsEquals ∷ classes.Name ∷ classes.Number ∷ classes.Literal ∷ [])

-- the class is among those of the set
abbrev pub Lists : Expected → TokenClass → Type 0
Lists e c = (k : ℕ) × (slice_get all_classes k ≡ Some c) × (slice_get e.listed k ≡ Some true)
