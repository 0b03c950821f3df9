-- The form of a name in a dump.
use Rattle.std.specs.Prelude.{◌≡◌, ℕ, ◌≤◌, List, length, All, true}
use Rattle.kp_base.specs.Characters.{is_word}

-- up to 66 bytes, each a letter, a digit or `_`
pub record IsName (bytes : List ℕ) : Type 0 where
  pub within : length bytes ≤ 66
  pub spelled : All (λ byte. is_word byte ≡ true) bytes
