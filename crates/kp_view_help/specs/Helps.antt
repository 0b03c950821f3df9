-- What helps at a byte that no token begins with, at a token that can't be there, and where a number of words is in the place of the width of their addresses.
use Rattle.std.specs.Prelude.{ℕ, ◌≡◌, ◌≢◌, ◌==◌, ◌<◌, ◌≤◌, ◌^◌, ◌↔◌, IsTrue, Bool, true, false, not, ◌&&◌, ◌||◌, if◌then◌else◌, List, Option, Some, None, MatchOption, codes}
use Rattle.std.specs.Str.{bytes_eq}
use Rattle.kp_lex.specs.declared.token.Keyword.TheVariants as keywords
use Rattle.kp_lex.specs.declared.token.Mark.TheVariants as marks
use Rattle.kp_view_expected.specs.{GoesOn.Lists, declared.set.Expected.Expected}
use Rattle.kp_view_expected.specs.declared.token_class.TokenClass.TheVariants as classes
use Rattle.kp_view_help.specs.declared.{word.Word.Word, found.FoundToken.FoundToken, help.Help.Help, allowed.Allowed.Allowed, allowed.Before.Before}
use Rattle.kp_view_help.specs.declared.found.FoundToken.TheVariants as tokens
use Rattle.kp_view_help.specs.declared.help.Help.TheVariants as help
use Rattle.kp_view_help.specs.declared.allowed.Before.TheVariants as before

-- `!`, `>`, `#`, `/`, `%` and `$` of other languages; `'` of a literal without a width; the first byte of a byte order mark, and of typographic quotes and dashes
abbrev pub byte_help : ℕ → Option Help
byte_help byte =
    if byte == 33 then Some help.NotEqual
    else if byte == 62 then Some help.Greater
    else if byte == 35 || byte == 47 then Some help.Comment
    else if byte == 37 then Some help.Remainder
    else if byte == 36 then Some help.Dollar
    else if byte == 39 then Some help.NoWidth
    else if byte == 226 then Some help.Typographic
    else if byte == 239 then Some help.ByteOrderMark
    else None

-- Help depends on these classes of tokens alone, among those that a place allows.
abbrev pub Describes : Expected → Allowed → Type 0
Describes e a =
    (IsTrue a.value ↔ Lists e (classes.Mark marks.Tilde))
    × (IsTrue a.operator ↔ Lists e (classes.Mark marks.Plus))
    × (IsTrue a.literal ↔ Lists e classes.Literal)
    × (IsTrue a.number ↔ Lists e classes.Number)
    × (IsTrue a.name ↔ Lists e classes.Name)
    × (IsTrue a.semicolon ↔ Lists e (classes.Mark marks.Semicolon))
    × (IsTrue a.bracket ↔ Lists e (classes.Mark marks.CloseBracket))
    × (IsTrue a.brace ↔ Lists e (classes.Mark marks.CloseBrace))
    × (IsTrue a.at ↔ Lists e (classes.Keyword keywords.At))
    × (IsTrue a.statement ↔ Lists e (classes.Keyword keywords.Let))
    × (IsTrue a.stage ↔ Lists e (classes.Keyword keywords.Stage))
    × (IsTrue a.end ↔ Lists e (classes.Keyword keywords.End))

abbrev pub is_and : Before → Bool
is_and before.And = true
is_and _ = false

abbrev pub is_or : Before → Bool
is_or before.Or = true
is_or _ = false

abbrev pub reduction : Bool → Help
reduction doubled = if doubled then help.OneMark else help.Reduction

-- in the place of a value: `<=`, `&&` and `||` have a second mark there, and a reduction, as `|a`, begins with one
abbrev pub value_help : List ℕ → Before → Option Help
value_help mark b =
    if bytes_eq mark (codes "=") then Some help.NotGreater
    else if bytes_eq mark (codes "&") then Some (reduction (is_and b))
    else if bytes_eq mark (codes "|") then Some (reduction (is_or b))
    else None

-- the marks that go on with a condition
abbrev pub goes_on : List ℕ → Bool
goes_on mark = bytes_eq mark (codes "==") || (bytes_eq mark (codes "<") || (bytes_eq mark (codes "&") || (bytes_eq mark (codes "|") || (bytes_eq mark (codes "^") || bytes_eq mark (codes "[")))))

abbrev pub mark_help : Allowed → Word → Before → Option Help
mark_help a w b =
    if a.value then value_help w.0.now b
    else if a.operator then (if bytes_eq w.0.now (codes "=") then Some help.Equal else None)
    else if a.bracket && bytes_eq w.0.now (codes "[") then Some help.AddressInPipe
    else if a.at && goes_on w.0.now then Some help.EnableInPipe
    else if a.name && (bytes_eq w.0.now (codes "~") || bytes_eq w.0.now (codes "(")) then Some help.NameAlone
    else None

abbrev pub declares : List ℕ → Bool
declares word =
    bytes_eq word (codes "reg") || (bytes_eq word (codes "file") || (bytes_eq word (codes "pipe") || (bytes_eq word (codes "result")
    || (bytes_eq word (codes "hint") || (bytes_eq word (codes "sample") || bytes_eq word (codes "fn"))))))

abbrev pub begins_section : List ℕ → Bool
begins_section word = bytes_eq word (codes "image") || (bytes_eq word (codes "stalls") || bytes_eq word (codes "inputs"))

-- `when` where a statement ends, and where a declaration does; a declaration and a section in the place of others; and a keyword in the place of a name
abbrev pub keyword_help : Allowed → Word → Option Help
keyword_help a w =
    if a.semicolon && bytes_eq w.0.now (codes "when") then Some (if a.operator then help.WhenOfSet else help.WhenBeforeAt)
    else if (a.statement || a.end) && declares w.0.now then Some help.DeclaredFirst
    else if (a.stage || a.end) && begins_section w.0.now then Some help.SectionsLast
    else if a.name && not a.brace then Some (help.KeywordAsName w)
    else None

-- in the place of a literal, whose width may be declared; a literal is a value, or the start of a register or of a word
abbrev pub number_help : Bool → Before → Word → Help
number_help value (before.Width width) w = help.NumberAsValue w width
number_help true _ w = help.NumberInValue w
number_help false _ w = help.NumberAsWord w

-- a name in the place of a number: of a slice, or elsewhere; and in that of a statement
abbrev pub name_as_number : Before → Word → Help
name_as_number before.Sliced w = help.NameAsNumber w
name_as_number _ w = help.Digits

abbrev pub name_help : Allowed → Before → Word → Option Help
name_help a b w = if a.number then Some (name_as_number b w) else if a.statement then Some (help.GiveValue w) else None

abbrev pub token_help : Allowed → Before → FoundToken → Option Help
token_help a b (tokens.Number w) = if a.literal then Some (number_help a.value b w) else None
token_help a b (tokens.Mark w) = mark_help a w b
token_help a b (tokens.Keyword w) = keyword_help a w
token_help a b (tokens.Name w) = name_help a b w
token_help a b _ = None

-- the token, what may be there, and what is before
abbrev pub HelpsAt : FoundToken → Expected → Before → Option Help → Type 0
HelpsAt found e b result = (a : Allowed) × Describes e a × (result ≡ token_help a b found)

-- The width of addresses of so many words is named, if it is one from 5 to 16.
abbrev pub IsHelpForWords : ℕ → Option Help → Type 0
IsHelpForWords words result =
    MatchOption result ((bits : ℕ) → 4 < bits → bits ≤ 16 → words ≢ 2 ^ bits)
    (λ h. (bits : ℕ) × (4 < bits) × (bits ≤ 16) × (words ≡ 2 ^ bits) × (h ≡ help.AddressWords words bits))
