-- THE MEANING OF A TOKEN OF A DUMP, or the rule that it violates.
use Rattle.std.specs.Prelude.{ℕ, ◌==◌, ◌&&◌, ◌||◌, not, nat_eq, nat_lt, nat_le, Bool, true, false, List, [], ◌∷◌, length, map, get_or, codes, Option, None, Some, Result, Ok, Err, unwrap_or, ◌-◌, ◌^◌, if◌then◌else◌}
use Rattle.std.specs.{List.list_all, Cmp.Lexicographic.pointwise}
use Rattle.kp_base.specs.Characters.{is_word}
use Rattle.kp_bits.specs.{Literals.is_number, Literals.numeral_value, Literals.number_within, Literals.number_of, Word.Word, Word.word}
use Rattle.kp_vcd.specs.declared.{dump.Signal.Signal, dump.Change.Change, forms.Said.Said}
use Rattle.kp_vcd.specs.declared.forms.Said.TheVariants as said

-- the meaning of a token, or the number of the rule that it violates
abbrev pub Form : Type 0 → Type 0
Form X = Result X ℕ

-- a token without a meaning violates rule 1
abbrev pub or_wrong : {X : Type 0} → Option X → Form X
or_wrong None = Err 1
or_wrong (Some x) = Ok x

abbrev pub same_bytes : List ℕ → List ℕ → Bool
same_bytes = pointwise nat_eq

-- ---- names and keywords

-- 1 to 66 letters, digits and `_`
abbrev pub is_name : List ℕ → Bool
is_name bytes = nat_le 1 (length bytes) && nat_le (length bytes) 66 && list_all is_word bytes

abbrev pub name_of : List ℕ → Form (List ℕ)
name_of bytes = if is_name bytes then Ok bytes else Err 1

-- whether a signal is a register
abbrev pub kind_of : List ℕ → Form Bool
kind_of bytes = if same_bytes bytes (codes "reg") then Ok true else (if same_bytes bytes (codes "wire") then Ok false else Err 1)

-- whether another signal is declared
abbrev pub more_of : List ℕ → Form Bool
more_of bytes = if same_bytes bytes (codes "$var") then Ok true else (if same_bytes bytes (codes "$upscope") then Ok false else Err 1)

-- ---- numbers

-- the number that digits denote; a number from 2^64 on counts as 2^64-1, which is neither a width nor the number of a signal
abbrev pub capped : List ℕ → ℕ
capped digits = unwrap_or (number_within (numeral_value 10 digits)) (2 ^ 64 - 1)

-- a width is a number, and then one in 1 to 64
abbrev pub width_of : List ℕ → Form ℕ
width_of bytes = if is_number bytes then (if nat_le 1 (capped bytes) && nat_le (capped bytes) 64 then Ok (capped bytes) else Err 2) else Err 1

-- a number with a leading zero that it doesn't need
abbrev pub is_padded : List ℕ → Bool
is_padded (d ∷ e ∷ ds) = d == 48
is_padded _ = false

abbrev pub index_in : List ℕ → Option ℕ
index_in digits = if is_number digits && not (is_padded digits) then Some (capped digits) else None

-- a code, as `s3`: the number of its signal
abbrev pub index_of : List ℕ → Option ℕ
index_of [] = None
index_of (c ∷ digits) = if c == 115 then index_in digits else None

-- the code of the next signal, if the given number of signals came before
abbrev pub is_next : ℕ → Option ℕ → Form ℕ
is_next count None = Err 1
is_next count (Some i) = if i == count then Ok i else Err 2

abbrev pub code_of : ℕ → List ℕ → Form ℕ
code_of count bytes = is_next count (index_of bytes)

-- a time, as `#3`, below 2^64
abbrev pub time_of : List ℕ → Option ℕ
time_of [] = None
time_of (c ∷ digits) = if c == 35 then number_of digits else None

-- ---- changes

abbrev pub is_bit : ℕ → Bool
is_bit byte = byte == 48 || byte == 49

-- one bit or more, and nothing else
abbrev pub are_bits : List ℕ → Bool
are_bits bytes = nat_lt 0 (length bytes) && list_all is_bit bytes

-- the value that bits denote; over 64 of them are no value
abbrev pub value_of : List ℕ → Option Word
value_of bits = if nat_le (length bits) 64 then Some (word (length bits) (numeral_value 2 bits)) else None

-- `b` and bits
abbrev pub said_by_bits : List ℕ → Said
said_by_bits [] = said.Other
said_by_bits (c ∷ bits) = if c == 98 && are_bits bits then said.Bits (value_of bits) else said.Other

-- the value of a bit
abbrev pub bit_value : ℕ → Word
bit_value bit = word 1 (if bit == 49 then 1 else 0)

-- a bit before the code of this signal, as `1s3`
abbrev pub short_index_of : List ℕ → Option ℕ
short_index_of [] = None
short_index_of (bit ∷ code) = if is_bit bit then index_of code else None

abbrev pub short_value_of : List ℕ → Word
short_value_of [] = bit_value 48
short_value_of (bit ∷ code) = bit_value bit

abbrev pub said_by_short : List ℕ → Option ℕ → Said
said_by_short bytes None = said_by_bits bytes
said_by_short bytes (Some i) = said.Short i (short_value_of bytes)

-- the first token of a change
abbrev pub said_by : List ℕ → Said
said_by bytes = said_by_short bytes (short_index_of bytes)

-- the width of signal i, and 0 if the signal doesn't exist
abbrev pub width_at : List Signal → ℕ → ℕ
width_at signals i = get_or (map (λ s. s.width) signals) i 0

-- a signal changes to a value of its width
abbrev pub change_of : List Signal → ℕ → Option Word → Form Change
change_of signals i None = Err 3
change_of signals i (Some value) = if width_at signals i == value.width then Ok (record { signal = i; value = value }) else Err 3
