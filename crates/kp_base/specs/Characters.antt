-- Classes of bytes, and the length of a run of bytes of one class.
use Rattle.std.specs.Prelude.{◌≡◌, ℕ, ◌+◌, ◌<◌, ◌==◌, ◌&&◌, ◌||◌, nat_le, Bool, if◌then◌else◌, List, [], ◌∷◌}

-- 0 to 9
abbrev pub is_digit : ℕ → Bool
is_digit byte = nat_le 48 byte && nat_le byte 57

-- A to Z, a to z, and `_`
abbrev pub is_letter : ℕ → Bool
is_letter byte = (nat_le 65 byte && nat_le byte 90) || (nat_le 97 byte && nat_le byte 122) || byte == 95

-- a letter, a digit or `_`: a later character of a name
abbrev pub is_word : ℕ → Bool
is_word byte = is_letter byte || is_digit byte

-- the length of the longest prefix whose bytes all pass the test
abbrev pub run_length : (ℕ → Bool) → List ℕ → ℕ
run_length test [] = 0
run_length test (byte ∷ rest) = if test byte then run_length test rest + 1 else 0

-- for each byte, the result of the call is the result of the test
abbrev pub Computes : (ℕ → Bool → Type 0) → (ℕ → Bool) → Type 0
Computes answered test = (byte : ℕ) (answer : Bool) → byte < 256 → answered byte answer → answer ≡ test byte
