-- The bytes of a name.
use Rattle.std.specs.Prelude.{◌≡◌, ℕ, ◌≤◌, List, length, All, true}
use Rattle.kp_base.specs.Characters.{is_word}

-- 1 to 64 bytes, each a letter, a digit or `_`
pub record IsName (bytes : List ℕ) : Type 0 where
  pub not_empty : 1 ≤ length bytes
  pub within : length bytes ≤ 64
  pub spelled : All (λ byte. is_word byte ≡ true) bytes
