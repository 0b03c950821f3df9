-- THE VALUE THAT WAS GUESSED for a register, by the guesses that are pending in a stage.
use Rattle.std.specs.Prelude.{ℕ, List, [], ◌∷◌, Option, Some, None, Bool, not, ◌&&◌, ◌==◌, if◌then◌else◌}
use Rattle.std.specs.List.{list_any}
use Rattle.kp_bits.specs.Word.{Word, word}
use Rattle.kp_ast.specs.declared.tree.Job.{Job}
use Rattle.kp_pipeline.specs.Sequential.{PendingGuess}
use Rattle.kp_design.specs.Numbers.{target_at}

-- the value of the first guess of register t
abbrev pub first_guess : ℕ → List PendingGuess → Option ℕ
first_guess t [] = None
first_guess t (p ∷ ps) = if p.register == t then Some p.value else first_guess t ps

-- a guess of register t with another value than v
abbrev pub is_other_guess : ℕ → ℕ → PendingGuess → Bool
is_other_guess t v p = (p.register == t) && not (p.value == v)

abbrev pub agreed : ℕ → List PendingGuess → Option ℕ → Option ℕ
agreed t ps None = None
agreed t ps (Some v) = if list_any (is_other_guess t v) ps then None else Some v

-- THE GUESSED VALUE of register t: that of its guesses, if there are some and they all have the same value.
abbrev pub guessed_value : ℕ → List PendingGuess → Option ℕ
guessed_value t ps = agreed t ps (first_guess t ps)

-- It as a word of the width of the register.
abbrev pub as_word : ℕ → Option ℕ → Option Word
as_word width None = None
as_word width (Some v) = Some (word width v)

abbrev pub guessed_word : Job → ℕ → List PendingGuess → Option Word
guessed_word job t ps = as_word (target_at job t).width (guessed_value t ps)
