-- The tokens of an assembler program.
use Rattle.std.specs.Prelude.{ℕ, zero, suc, ◌+◌, ◌==◌, ◌||◌, ◌&&◌, nat_lt, nat_le, not, max, List, [], ◌∷◌, ◌++◌, drop, take, Bool, false, if◌then◌else◌, Result, Ok, Err}
use Rattle.kp_base.specs.Characters.{is_digit, is_letter, is_word, run_length}
use Rattle.kp_asm.specs.Faults.{ProgramFinding, broken}
use Rattle.kp_asm.specs.declared.{token.Token.Token, token.TokenKind.TokenKind, front.Front.Front}
use Rattle.kp_asm.specs.declared.token.TokenKind.TheVariants as kinds
use Rattle.kp_asm.specs.declared.front.Front.TheVariants as fronts
use Rattle.kp_asm.specs.declared.fault.ProgramFault.TheVariants as faults

-- space, tab and carriage return; a line feed is a token
abbrev pub is_layout : ℕ → Bool
is_layout byte = byte == 32 || byte == 9 || byte == 13

-- 0 to 9, A to F, and a to f
abbrev pub is_hex : ℕ → Bool
is_hex byte = is_digit byte || (nat_le 65 byte && nat_le byte 70) || (nat_le 97 byte && nat_le byte 102)

-- a comment ends before the line feed
abbrev pub is_in_line : ℕ → Bool
is_in_line byte = not (byte == 10)

-- an `x` and a hexadecimal digit
abbrev pub begins_hex : List ℕ → Bool
begins_hex (x ∷ digit ∷ rest) = x == 120 && is_hex digit
begins_hex _ = false

-- a name has at most 64 bytes
abbrev pub name : ℕ → Front
name more = if nat_lt 63 more then fronts.Broken (faults.LongName (more + 1)) else fronts.Token kinds.Name more

-- the number of bytes of a number after its first digit: `0x` and hexadecimal digits, or decimal digits
abbrev pub number_more : ℕ → List ℕ → ℕ
number_more first rest = if first == 48 && begins_hex rest then run_length is_hex (drop 1 rest) + 1 else run_length is_digit rest

-- a `-` and decimal digits
abbrev pub negative : ℕ → Front
negative more = if more == 0 then fronts.Broken faults.NoDigits else fronts.Token kinds.Number more

-- `.word`
abbrev pub dot_word : List ℕ → Front
dot_word (a ∷ b ∷ c ∷ d ∷ rest) = if a == 119 && b == 111 && c == 114 && d == 100 then fronts.Token kinds.DotWord 4 else fronts.Broken faults.NoDirective
dot_word _ = fronts.Broken faults.NoDirective

-- a byte that is a token of its own
abbrev pub mark : ℕ → Front
mark byte =
    if byte == 10 then fronts.Token kinds.LineEnd 0
    else if byte == 44 then fronts.Token kinds.Comma 0
    else if byte == 40 then fronts.Token kinds.Open 0
    else if byte == 41 then fronts.Token kinds.Close 0
    else if byte == 58 then fronts.Token kinds.Colon 0
    else fronts.Broken (faults.NoToken byte)

-- What starts with this byte, given the bytes after it: layout, a comment, a token, or nothing.
abbrev pub front_of : ℕ → List ℕ → Front
front_of first rest =
    if is_layout first then fronts.Gap 0
    else if first == 59 then fronts.Gap (run_length is_in_line rest)
    else if is_letter first then name (run_length is_word rest)
    else if is_digit first then fronts.Token kinds.Number (number_more first rest)
    else if first == 45 then negative (run_length is_digit rest)
    else if first == 46 then dot_word rest
    else mark first

-- the number of bytes after the first
abbrev pub more_of : Front → ℕ
more_of (fronts.Gap more) = more
more_of (fronts.Token kind more) = more
more_of (fronts.Broken fault) = 0

-- a token with this offset, kind and length
abbrev pub token_at : ℕ → TokenKind → ℕ → Token
token_at start kind len = record { start = start; len = len; kind = kind }

-- the rest after a front: `go` receives the tokens and the number of bytes after the first
abbrev pub after_front : List ℕ → List Token → ℕ → Front → (List Token → ℕ → Result (List Token) ProgramFinding) → Result (List Token) ProgramFinding
after_front text tokens start (fronts.Gap more) go = go tokens more
after_front text tokens start (fronts.Token kind more) go = go (tokens ++ token_at start kind (more + 1) ∷ []) more
after_front text tokens start (fronts.Broken fault) go = Err (broken text fault start)

-- From the tokens so far, the offset, the number of bytes that still belong to what started before, and the bytes that are left. The end of the text
-- ends a line too. A1 is violated where no token starts, or a name is too long.
abbrev pub tokens_from : List ℕ → List Token → ℕ → ℕ → List ℕ → Result (List Token) ProgramFinding
tokens_from text tokens start inside [] = Ok (tokens ++ token_at start kinds.LineEnd 0 ∷ [])
tokens_from text tokens start (suc inside) (byte ∷ rest) = tokens_from text tokens (start + 1) inside rest
tokens_from text tokens start zero (byte ∷ rest) = after_front text tokens start (front_of byte rest) (λ more inside. tokens_from text more (start + 1) inside rest)

-- the tokens of a text, or the first byte that violates A1
abbrev pub tokens_of : List ℕ → Result (List Token) ProgramFinding
tokens_of text = tokens_from text [] 0 0 text

-- the bytes of a token
abbrev pub bytes_of : List ℕ → Token → List ℕ
bytes_of text token = take token.len (drop token.start text)

-- how long the token is that starts at the head of a text with this front: none at the end of a line. Where none can start, the letters and digits there,
-- and one byte at least.
abbrev pub length_of : List ℕ → Front → ℕ
length_of text (fronts.Token kinds.LineEnd more) = 0
length_of text (fronts.Token kind more) = more + 1
length_of text (fronts.Broken fault) = max 1 (run_length is_word text)
length_of text (fronts.Gap more) = 0

-- HOW LONG THE TOKEN is that a text begins with.
abbrev pub token_length : List ℕ → ℕ
token_length [] = 0
token_length (first ∷ rest) = length_of (first ∷ rest) (front_of first rest)
