-- A name of a stage is a text.
use Rattle.std.proofs.Common.{◌≡◌, ℕ, ◌<◌, true, List, get_or, All, arith}
use Rattle.std.specs.{Prelude.IsUtf8, List.list_all}
use Rattle.std.proofs.lemmas.{Str.IsUtf8-from_ascii, Str.Ascii.IsAscii-from_all, Bool.and_parts, Bool.Decides.nat_tests, List.Sums.AllPass-from_list_all}
use Rattle.kp_base.specs.Characters.{is_word}
use Rattle.kp_directive.specs.Faults.{has_length, is_name}

small : (b : ℕ) → is_word b ≡ true → b < 128
small b h = grind (arith, nat_tests)

each : (name : List ℕ) → list_all is_word name ≡ true → All (λ b. b < 128) name
each name h k d l = small (get_or name k d) (AllPass-from_list_all is_word name h k d l)

pub name_is_text : (name : List ℕ) → is_name name ≡ true → IsUtf8 name
name_is_text name h = IsUtf8-from_ascii name (IsAscii-from_all name (each name (and_parts (has_length name) (list_all is_word name) h).1))
