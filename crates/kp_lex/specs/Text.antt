-- What a text starts with, and the tokens of a text.
use Rattle.std.specs.Prelude.{ℕ, ◌+◌, ◌≤◌, ◌≡◌, ◌==◌, nat_lt, List, [], ◌∷◌, ◌++◌, length, drop, take, Bool, true, false, not, ◌||◌, ◌&&◌, if◌then◌else◌, Option, Some, None, IfSome, Result, Ok, Err, All, slice_get, ⊤}
use Rattle.kp_base.specs.{Characters.is_digit, Characters.is_letter, Characters.is_word, Characters.run_length, Place.place_after, Refusal.e_rule}
use Rattle.kp_base.specs.declared.{place.Place.Place, refusal.Refusal.Refusal, refusal.Refused.Refused}
use Rattle.kp_base.specs.declared.refusal.Refused.TheVariants as refused
use Rattle.kp_bits.specs.{Literals.number_of, Literals.literal_of, declared.literal.Literal.Literal, declared.literal.LiteralFault.LiteralFault}
use Rattle.kp_lex.specs.{Words.keyword_of, Words.single_mark, Words.double_mark, declared.front.Front.Front, declared.token.Keyword.Keyword}
use Rattle.kp_lex.specs.declared.token.{Mark.Mark, TokenKind.TokenKind, Token.Token, Lexed.Lexed}
use Rattle.kp_lex.specs.declared.front.Front.TheVariants as fronts
use Rattle.kp_lex.specs.declared.front.TokenFault.{TokenFault}
use Rattle.kp_lex.specs.declared.front.TokenFault.TheVariants as faults
use Rattle.kp_lex.specs.declared.token.Keyword.TheVariants as keywords
use Rattle.kp_lex.specs.declared.token.TokenKind.TheVariants as kinds

-- space, tab, carriage return and line feed
abbrev pub is_layout : ℕ → Bool
is_layout byte = byte == 32 || byte == 9 || byte == 13 || byte == 10

-- a comment starts with `//`, and ends before the next line feed
abbrev pub begins_comment : List ℕ → Bool
begins_comment (a ∷ b ∷ rest) = a == 47 && b == 47
begins_comment _ = false

-- the length of the longest prefix of layout and comments, where the prefix starts inside a comment or not
abbrev pub gap_length : Bool → List ℕ → ℕ
gap_length inside [] = 0
gap_length true (byte ∷ rest) = gap_length (not (byte == 10)) rest + 1
gap_length false (byte ∷ rest) =
    if begins_comment (byte ∷ rest) then gap_length true rest + 1
    else if is_layout byte then gap_length false rest + 1
    else 0

-- a later byte of a run that starts with a digit
abbrev pub is_in_run : ℕ → Bool
is_in_run byte = is_word byte || byte == 39

-- the longest prefix of bytes that pass the test
abbrev pub run_of : (ℕ → Bool) → List ℕ → List ℕ
run_of test text = take (run_length test text) text

-- the number of the rule
abbrev pub rule_of : TokenFault → ℕ
rule_of (faults.NoToken byte) = 1
rule_of (faults.LongName length) = 1
rule_of faults.NoNumber = 2

abbrev pub keyword_or_name : Option Keyword → TokenKind
keyword_or_name (Some k) = kinds.Keyword k
keyword_or_name None = kinds.Ident

-- an identifier has at most 64 bytes, else E1 is violated
abbrev pub identifier : List ℕ → Front
identifier run = if nat_lt 64 (length run) then fronts.Broken (faults.LongName (length run)) else fronts.Token (keyword_or_name (keyword_of run)) (length run)

-- a run that starts with a digit is a number or a literal, else E2 is violated
abbrev pub literal_or_broken : ℕ → Result Literal LiteralFault → Front
literal_or_broken len (Ok literal) = fronts.Token (kinds.Literal literal) len
literal_or_broken len (Err fault) = fronts.Broken faults.NoNumber

abbrev pub number_or_literal : List ℕ → Option ℕ → Front
number_or_literal run (Some n) = fronts.Token (kinds.Number n) (length run)
number_or_literal run None = literal_or_broken (length run) (literal_of run)

abbrev pub number_run : List ℕ → Front
number_run run = number_or_literal run (number_of run)

-- the longest punctuator; if there is none, no token starts, which violates E1
abbrev pub mark_or_broken : ℕ → Option Mark → Front
mark_or_broken first (Some m) = fronts.Token (kinds.Mark m) 1
mark_or_broken first None = fronts.Broken (faults.NoToken first)

abbrev pub mark_or_shorter : ℕ → Option Mark → Front
mark_or_shorter first (Some m) = fronts.Token (kinds.Mark m) 2
mark_or_shorter first None = mark_or_broken first (single_mark first)

abbrev pub mark : ℕ → List ℕ → Front
mark first [] = mark_or_broken first (single_mark first)
mark first (second ∷ rest) = mark_or_shorter first (double_mark first second)

abbrev pub token_of : List ℕ → Front
token_of [] = fronts.End
token_of (first ∷ rest) =
    if is_letter first then identifier (run_of is_word (first ∷ rest))
    else if is_digit first then number_run (run_of is_in_run (first ∷ rest))
    else mark first rest

-- What a text starts with: layout and comments, as many as possible; or a token, a violation, or the end.
abbrev pub front_of : List ℕ → Front
front_of text = if nat_lt 0 (gap_length false text) then fronts.Gap (gap_length false text) else token_of text

abbrev pub token_at : List ℕ → TokenKind → ℕ → Token
token_at before kind len = record { start = length before; len = len; kind = kind; place = place_after before }

abbrev pub is_end : TokenKind → Bool
is_end (kinds.Keyword keywords.End) = true
is_end _ = false

-- From the tokens so far, the preceding bytes and the remaining bytes: layout and comments are skipped, a token is
-- the longest that matches, the first `end` is the last token, and the first violated rule is reported.
pub data Lexes : List Token → List ℕ → List ℕ → Result Lexed Refusal → Type 0 where
  finish : {tokens : List Token} {before text : List ℕ} → front_of text ≡ fronts.End → Lexes tokens before text (Ok (record { tokens = tokens; rest = length before }))
  skip : {tokens : List Token} {before text : List ℕ} {outcome : Result Lexed Refusal} (len : ℕ) → front_of text ≡ fronts.Gap len
      → Lexes tokens (before ++ take len text) (drop len text) outcome → Lexes tokens before text outcome
  token : {tokens : List Token} {before text : List ℕ} {outcome : Result Lexed Refusal} (kind : TokenKind) (len : ℕ) → front_of text ≡ fronts.Token kind len
      → is_end kind ≡ false → Lexes (tokens ++ token_at before kind len ∷ []) (before ++ take len text) (drop len text) outcome → Lexes tokens before text outcome
  last : {tokens : List Token} {before text : List ℕ} (kind : TokenKind) (len : ℕ) → front_of text ≡ fronts.Token kind len
      → is_end kind ≡ true → Lexes tokens before text (Ok (record { tokens = tokens ++ token_at before kind len ∷ []; rest = length before + len }))
  broken : {tokens : List Token} {before text : List ℕ} (fault : TokenFault) → front_of text ≡ fronts.Broken fault
      → Lexes tokens before text (Err (e_rule (rule_of fault) (place_after before)))

-- the outcome of a text
abbrev pub HasOutcome : List ℕ → Result Lexed Refusal → Type 0
HasOutcome text outcome = Lexes [] [] text outcome

-- a call of the lexer returns the outcome of the text, or runs out of memory
abbrev pub AnswersOutcome : List ℕ → Result Lexed Refused → Type 0
AnswersOutcome text (Ok lexed) = HasOutcome text (Ok lexed)
AnswersOutcome text (Err (refused.Rule refusal)) = HasOutcome text (Err refusal)
AnswersOutcome text (Err refused.NoMemory) = ⊤

-- the position of the first byte from the offset on that is neither layout nor in a comment
abbrev pub tail_place : List ℕ → ℕ → Option Place
tail_place text at = if nat_lt at (length text) then Some (place_after (take at text)) else None

abbrev pub tail_of : List ℕ → ℕ → Option Place
tail_of text from = tail_place text (from + gap_length false (drop from text))

-- A token occurs in the text at its offset, at its position.
pub record StandsIn (text : List ℕ) (t : Token) : Type 0 where
  pub front : front_of (drop t.start text) ≡ fronts.Token t.kind t.len
  pub within : t.start + t.len ≤ length text
  pub place : t.place ≡ place_after (take t.start text)

-- 1 to 64 letters, digits and `_`, starting with a letter or `_`, and not a keyword
pub record IsIdentifier (bytes : List ℕ) : Type 0 where
  pub not_empty : 1 ≤ length bytes
  pub within : length bytes ≤ 64
  pub spelled : All (λ byte. is_word byte ≡ true) bytes
  pub initial : IfSome (slice_get bytes 0) (λ byte. is_letter byte ≡ true)
  pub other : keyword_of bytes ≡ None
