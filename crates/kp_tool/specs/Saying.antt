-- An outcome: a status with a text.
use Rattle.std.specs.Prelude.{◌≡◌, ℕ, List}

-- exactly this status with exactly this text
abbrev pub Says : ℕ → List ℕ → ℕ → List ℕ → Type 0
Says due_status due_text status text = (status ≡ due_status) × (text ≡ due_text)
