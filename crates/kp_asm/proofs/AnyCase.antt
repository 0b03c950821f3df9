-- Texts that are the same but for the case of letters.
use Rattle.std.proofs.Common.{◌≡◌, ◌↔◌, ℕ, Bool, List, map, IsTrue, sym}
use Rattle.std.specs.{Char.to_ascii_lowercase, Str.str_eq_ignore_ascii_case}
use Rattle.std.proofs.lemmas.{Bool.Decides.same_from_decides, Slice.Eq.bytes_eq-Decides}

pub same_test : (a b : List ℕ) (test : Bool) → (IsTrue test ↔ (map to_ascii_lowercase a ≡ map to_ascii_lowercase b)) → test ≡ str_eq_ignore_ascii_case a b
same_test a b test is = sym (same_from_decides _ test (bytes_eq-Decides (map to_ascii_lowercase a) (map to_ascii_lowercase b)) is)
