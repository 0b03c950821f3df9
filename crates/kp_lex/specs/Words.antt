-- The keywords and the punctuators of the language.
use Rattle.std.specs.Prelude.{ℕ, ◌==◌, ◌&&◌, List, [], ◌∷◌, length, Option, Some, None, if◌then◌else◌, codes, find, filter}
use Rattle.std.specs.Str.{bytes_eq}
use Rattle.kp_lex.specs.declared.token.{Keyword.Keyword, Mark.Mark}
use Rattle.kp_lex.specs.declared.token.Keyword.TheVariants as keywords
use Rattle.kp_lex.specs.declared.token.Mark.TheVariants as marks

-- the text of a keyword
abbrev pub spelling : Keyword → List ℕ
spelling keywords.Machine = codes "machine"
spelling keywords.Stages = codes "stages"
spelling keywords.Reg = codes "reg"
spelling keywords.File = codes "file"
spelling keywords.Pipe = codes "pipe"
spelling keywords.Result = codes "result"
spelling keywords.Hint = codes "hint"
spelling keywords.Fn = codes "fn"
spelling keywords.Stage = codes "stage"
spelling keywords.Read = codes "read"
spelling keywords.Let = codes "let"
spelling keywords.Put = codes "put"
spelling keywords.Set = codes "set"
spelling keywords.Aim = codes "aim"
spelling keywords.Image = codes "image"
spelling keywords.Stalls = codes "stalls"
spelling keywords.End = codes "end"
spelling keywords.At = codes "at"
spelling keywords.When = codes "when"
spelling keywords.Guess = codes "guess"
spelling keywords.From = codes "from"
spelling keywords.To = codes "to"
spelling keywords.Step = codes "step"
spelling keywords.Zext = codes "zext"
spelling keywords.Sext = codes "sext"
spelling keywords.Sample = codes "sample"
spelling keywords.Inputs = codes "inputs"

abbrev pub all_keywords : List Keyword
all_keywords =
    keywords.Machine ∷ keywords.Stages ∷ keywords.Reg ∷ keywords.File ∷ keywords.Pipe ∷ keywords.Result ∷ keywords.Hint ∷ keywords.Fn ∷ keywords.Stage
    ∷ keywords.Read ∷ keywords.Let ∷ keywords.Put ∷ keywords.Set ∷ keywords.Aim ∷ keywords.Image ∷ keywords.Stalls ∷ keywords.End ∷ keywords.At ∷ keywords.When
    ∷ keywords.Guess ∷ keywords.From ∷ keywords.To ∷ keywords.Step ∷ keywords.Zext ∷ keywords.Sext ∷ keywords.Sample ∷ keywords.Inputs ∷ []

-- the keywords with this many letters
abbrev pub keywords_of_length : ℕ → List Keyword
keywords_of_length n = filter (λ k. length (spelling k) == n) all_keywords

-- the keyword with this text
abbrev pub keyword_of : List ℕ → Option Keyword
keyword_of run = find (λ k. bytes_eq run (spelling k)) all_keywords

-- the punctuator at the index at which the byte occurs
abbrev pub mark_beside : ℕ → List ℕ → List Mark → Option Mark
mark_beside byte [] ms = None
mark_beside byte (c ∷ cs) [] = None
mark_beside byte (c ∷ cs) (m ∷ ms) = if byte == c then Some m else mark_beside byte cs ms

-- the punctuators of one byte
abbrev pub single_mark : ℕ → Option Mark
single_mark byte = mark_beside byte (codes ";:,=()[]{}?~*+-&^|<")
    (marks.Semicolon ∷ marks.Colon ∷ marks.Comma ∷ marks.Equals ∷ marks.OpenParenthesis ∷ marks.CloseParenthesis ∷ marks.OpenBracket ∷ marks.CloseBracket
    ∷ marks.OpenBrace ∷ marks.CloseBrace ∷ marks.Question ∷ marks.Tilde ∷ marks.Star ∷ marks.Plus ∷ marks.Minus ∷ marks.Ampersand ∷ marks.Caret ∷ marks.Bar ∷ marks.Less ∷ [])

-- the punctuators of two bytes: `<<`, `>>`, `==` and `->`
abbrev pub double_mark : ℕ → ℕ → Option Mark
double_mark first second =
    if first == 60 && second == 60 then Some marks.ShiftLeft
    else if first == 62 && second == 62 then Some marks.ShiftRight
    else if first == 61 && second == 61 then Some marks.EqualsEquals
    else if first == 45 && second == 62 then Some marks.Arrow
    else None
