-- LISTINGS: lines that have an address and a text, as `objdump -d` prints them, with the code between two tabs, or an assembler: `8: add r2, r2, r1`.
use Rattle.std.specs.Prelude.{ℕ, ◌==◌, Bool, ◌&&◌, not, nat_le, nat_lt, if◌then◌else◌, max, List, [], ◌∷◌, ◌++◌, length, take, drop, codes, Option, Some, None}
use Rattle.std.specs.{Char.is_ascii_hexdigit, Str.bytes_eq}
use Rattle.kp_base.specs.{Characters.run_length, Lines.Piece, Lines.is_blank, Lines.lines_of, Lines.piece_of, Lines.words_of}
use Rattle.kp_bits.specs.Literals.{number_within, numeral_value}

-- an address, and the text after it in its line, or the text that is shown with it
pub record Entry : Type 0 where
  pub address : ℕ
  pub text : List ℕ

abbrev pub or_all : Option (List ℕ) → List ℕ → List ℕ
or_all None all = all
or_all (Some rest) all = rest

-- what follows `0x`
abbrev pub prefixed : List ℕ → Option (List ℕ)
prefixed (a ∷ b ∷ rest) = if a == 48 && b == 120 then Some rest else None
prefixed _ = None

abbrev pub digits_from : List ℕ → List ℕ
digits_from bytes = or_all (prefixed bytes) bytes

-- what follows a code between two tabs
abbrev pub is_untabbed : ℕ → Bool
is_untabbed c = not (c == 9)

abbrev pub after_tab : List ℕ → Option (List ℕ)
after_tab [] = None
after_tab (tab ∷ text) = Some text

abbrev pub coded : List ℕ → Option (List ℕ)
coded [] = None
coded (c ∷ rest) = if c == 9 then after_tab (drop (run_length is_untabbed rest) rest) else None

abbrev pub after_code : List ℕ → List ℕ
after_code text = or_all (coded text) text

-- blanks, hexadecimal digits, maybe after `0x`, `:`, and a text: an address of at most 64 bits
abbrev pub with_address : Option ℕ → List ℕ → Option Entry
with_address None text = None
with_address (Some address) text = Some (record { address = address; text = text })

abbrev pub after_digits : List ℕ → List ℕ → Option Entry
after_digits digits [] = None
after_digits digits (c ∷ text) =
    if c == 58 && nat_lt 0 (length digits) then with_address (number_within (numeral_value 16 digits)) (after_code text) else None

abbrev pub numbered_from : List ℕ → Option Entry
numbered_from bytes = after_digits (take (run_length is_ascii_hexdigit bytes) bytes) (drop (run_length is_ascii_hexdigit bytes) bytes)

abbrev pub numbered_in : List ℕ → Option Entry
numbered_in line = numbered_from (digits_from (drop (run_length is_blank line) line))

-- THE TEXT that is shown: the words up to `#`, with a space between them; of more than 28 bytes the first 26, and `..`
abbrev pub is_hash : List ℕ → Bool
is_hash word = bytes_eq word (codes "#")

abbrev pub with_word : List ℕ → List ℕ → List ℕ
with_word shown word = if length shown == 0 then word else shown ++ 32 ∷ word

abbrev pub words_joined : List ℕ → List Piece → List ℕ
words_joined shown [] = shown
words_joined shown (word ∷ words) = if is_hash word.bytes then shown else words_joined (with_word shown word.bytes) words

abbrev pub shortened : List ℕ → List ℕ
shortened text = if nat_le (length text) 28 then text else take 26 text ++ codes ".."

abbrev pub text_shown : List ℕ → List ℕ
text_shown text = shortened (words_joined [] (words_of (piece_of text (record { at = 0; end = length text }))))

abbrev pub entry_with : Option Entry → Option Entry
entry_with None = None
entry_with (Some e) = Some (record { address = e.address; text = text_shown e.text })

-- THE ENTRY of a line, if it has one
abbrev pub entry_in : List ℕ → Option Entry
entry_in line = entry_with (numbered_in line)

abbrev pub with_entry : Option Entry → List Entry → List Entry
with_entry None rest = rest
with_entry (Some e) rest = e ∷ rest

abbrev pub entries_from : List Piece → List Entry
entries_from [] = []
entries_from (line ∷ lines) = with_entry (entry_in line.bytes) (entries_from lines)

-- THE ENTRIES of a text, in order
abbrev pub entries_of : List ℕ → List Entry
entries_of text = entries_from (lines_of (piece_of text (record { at = 0; end = length text })))

-- THE TEXT OF AN ADDRESS: that of its first entry
abbrev pub text_at : ℕ → List Entry → List ℕ
text_at address [] = []
text_at address (e ∷ es) = if e.address == address then e.text else text_at address es

-- the greatest length of a text
abbrev pub widest : List Entry → ℕ
widest [] = 0
widest (e ∷ es) = max (length e.text) (widest es)
