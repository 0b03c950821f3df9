-- The lines of the words of a file, one after another.
use Rattle.std.proofs.Common.{◌≡◌, ◌∙◌, ◌+◌, ◌++◌, ℕ, Bool, List, add-one, ap, append_assoc}
use Rattle.kp_machine.specs.Slots.{Slot}
use Rattle.kp_runner.specs.Texts.{kept_line, kept_lines}

pub kept_more : (s : Slot) (keep : ℕ → Bool) (values : ℕ → ℕ) (from k : ℕ) (first old new : List ℕ) → old ≡ first ++ kept_lines s keep values from k
    → new ≡ old ++ kept_line s keep values (from + k) → new ≡ first ++ kept_lines s keep values from (k + 1)
kept_more s keep values from k first old new was is =
    rw (add-one k) (is ∙ ap (λ (xs : List ℕ). xs ++ kept_line s keep values (from + k)) was ∙ append_assoc first _ _)
