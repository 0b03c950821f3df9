-- The tokens of a Verilog text.
use Rattle.std.specs.Prelude.{ℕ, ◌+◌, ◌==◌, ◌≡◌, nat_lt, List, [], ◌∷◌, length, drop, take, Bool, false, not, ◌||◌, ◌&&◌, if◌then◌else◌, Option, Some, None, Result, Ok, Err}
use Rattle.kp_bits.specs.{Literals.number_of, Literals.literal_of, declared.literal.Literal.Literal, declared.literal.LiteralFault.LiteralFault}
use Rattle.kp_base.specs.Characters.{run_length, is_digit, is_letter}
use Rattle.kp_net.specs.Names.{is_in_identifier}
use Rattle.kp_vlog.specs.{declared.token.Keyword.Keyword, declared.token.Mark.Mark, Words.keyword_of, Words.single_mark, Words.double_mark}

-- the value of a token: a name as its bytes, a number, a literal, a keyword or a punctuator
pub data Word : Type 0 where
  name : List ℕ → Word
  number : ℕ → Word
  literal : Literal → Word
  keyword : Keyword → Word
  mark : Mark → Word

-- a token, and its offset
pub record Token : Type 0 where
  pub word : Word
  pub at : ℕ

-- space, tab, carriage return, line feed and form feed
abbrev pub is_layout : ℕ → Bool
is_layout byte = byte == 32 || byte == 9 || byte == 13 || byte == 10 || byte == 12

-- a byte with which a run that starts with a digit can continue: also `'`
abbrev pub is_in_run : ℕ → Bool
is_in_run byte = is_in_identifier byte || byte == 39

-- a byte with which a comment that starts with `//` can continue
abbrev pub is_in_line : ℕ → Bool
is_in_line byte = not (byte == 10)

abbrev pub begins_with : ℕ → List ℕ → Bool
begins_with c [] = false
begins_with c (byte ∷ rest) = byte == c

abbrev pub one_more : Option ℕ → Option ℕ
one_more None = None
one_more (Some n) = Some (n + 1)

-- the number of bytes up to and including the next `*/`
abbrev pub to_close : List ℕ → Option ℕ
to_close [] = None
to_close (byte ∷ rest) = if byte == 42 && begins_with 47 rest then Some 2 else one_more (to_close rest)

-- what a text can start with: its end, layout or a comment of some length, a token of some length, or none of these
pub data Front : Type 0 where
  finish : Front
  skips : ℕ → Front
  takes : Word → ℕ → Front
  broken : Front

abbrev pub keyword_or_name : List ℕ → Option Keyword → Word
keyword_or_name run (Some k) = keyword k
keyword_or_name run None = name run

-- an identifier has at most 70 bytes
abbrev pub identifier : List ℕ → Front
identifier run = if nat_lt 70 (length run) then broken else takes (keyword_or_name run (keyword_of run)) (length run)

-- a run that starts with a digit is a number or a literal
abbrev pub literal_or_broken : ℕ → Result Literal LiteralFault → Front
literal_or_broken len (Ok l) = takes (literal l) len
literal_or_broken len (Err fault) = broken

abbrev pub number_or_literal : List ℕ → Option ℕ → Front
number_or_literal run (Some n) = takes (number n) (length run)
number_or_literal run None = literal_or_broken (length run) (literal_of run)

abbrev pub number_run : List ℕ → Front
number_run run = number_or_literal run (number_of run)

-- a comment that starts with `/*`
abbrev pub comment_front : Option ℕ → Front
comment_front (Some n) = skips (n + 2)
comment_front None = broken

-- the longest punctuator
abbrev pub mark_or_broken : Option Mark → Front
mark_or_broken (Some m) = takes (mark m) 1
mark_or_broken None = broken

abbrev pub mark_or_shorter : ℕ → Option Mark → Front
mark_or_shorter first (Some m) = takes (mark m) 2
mark_or_shorter first None = mark_or_broken (single_mark first)

abbrev pub mark_front : ℕ → List ℕ → Front
mark_front first [] = mark_or_broken (single_mark first)
mark_front first (second ∷ rest) = mark_or_shorter first (double_mark first second)

-- what the text starts with
abbrev pub front : List ℕ → Front
front [] = finish
front (b ∷ bs) =
    if is_layout b then skips 1
    else if b == 47 && begins_with 47 bs then skips (run_length is_in_line (b ∷ bs))
    else if b == 47 && begins_with 42 bs then comment_front (to_close (drop 1 bs))
    else if is_letter b then identifier (take (run_length is_in_identifier (b ∷ bs)) (b ∷ bs))
    else if is_digit b then number_run (take (run_length is_in_run (b ∷ bs)) (b ∷ bs))
    else mark_front b bs

-- From an offset on, the text that is left has these tokens.
pub data Lexes : ℕ → List ℕ → List Token → Type 0 where
  at_end : {at : ℕ} {text : List ℕ} → front text ≡ finish → Lexes at text []
  past : {at : ℕ} {text : List ℕ} {ts : List Token} (n : ℕ) → front text ≡ skips n → Lexes (at + n) (drop n text) ts → Lexes at text ts
  token : {at : ℕ} {text : List ℕ} {ts : List Token} (w : Word) (n : ℕ) → front text ≡ takes w n → Lexes (at + n) (drop n text) ts
      → Lexes at text (record { word = w; at = at } ∷ ts)

-- The first position where no token starts, a comment isn't closed, a run is neither number nor literal, or an identifier is too long.
pub data LexesTo : ℕ → List ℕ → ℕ → Type 0 where
  here : {at : ℕ} {text : List ℕ} → front text ≡ broken → LexesTo at text at
  past_gap : {at : ℕ} {text : List ℕ} {to : ℕ} (n : ℕ) → front text ≡ skips n → LexesTo (at + n) (drop n text) to → LexesTo at text to
  past_token : {at : ℕ} {text : List ℕ} {to : ℕ} (w : Word) (n : ℕ) → front text ≡ takes w n → LexesTo (at + n) (drop n text) to → LexesTo at text to
