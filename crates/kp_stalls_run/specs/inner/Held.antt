-- The pending guesses that cells hold.
use Rattle.std.specs.Prelude.{ℕ, suc, List, [], ◌∷◌, Option, Some, None, Bool, false, not, ◌&&◌, ◌==◌, if◌then◌else◌}
use Rattle.std.specs.List.{list_any}
use Rattle.kp_bits.specs.Word.{Word}
use Rattle.kp_ast.specs.declared.tree.Job.{Job}
use Rattle.kp_pipeline.specs.Sequential.{PendingGuess}
use Rattle.kp_net.specs.Nodes.{Cells}
use Rattle.kp_synth_registers.specs.declared.key.Key.TheVariants.{Pending, Guess}
use Rattle.kp_design.specs.declared.guess.GuessSlot.{GuessSlot}
use Rattle.kp_design.specs.{Spans.is_carried, Numbers.target_at}
use Rattle.kp_synth_registers.specs.Holding.{kept_in, pending_guess}
use Rattle.kp_stalls_run.specs.Guessed.{as_word, first_guess, is_other_guess}

-- the guesses of stage k that are pending, among those that are numbered from g on
abbrev pub held_from : Job → Cells → ℕ → ℕ → List GuessSlot → List PendingGuess
held_from job c k g [] = []
held_from job c k g (s ∷ ss) =
    if is_carried s k && (kept_in job c (Pending g k) == 1) then pending_guess s (kept_in job c (Guess g k)) ∷ held_from job c k (suc g) ss else held_from job c k (suc g) ss

-- the value of guess g, if it is one of register t that is pending in stage k
abbrev pub value_of : Job → Cells → (stage target first : ℕ) → GuessSlot → Option ℕ
value_of job c k t g s =
    if is_carried s k && ((kept_in job c (Pending g k) == 1) && (s.register == t)) then Some (kept_in job c (Guess g k)) else None

abbrev pub word_of : Job → Cells → (stage target first : ℕ) → GuessSlot → Option Word
word_of job c k t g s = as_word (target_at job t).width (value_of job c k t g s)

-- the first one of the register
abbrev pub first_word : Job → Cells → (stage target first : ℕ) → List GuessSlot → Option Word
first_word job c k t g gs = as_word (target_at job t).width (first_guess t (held_from job c k g gs))

-- whether it has another value
abbrev pub is_other_value : ℕ → Option Word → Bool
is_other_value v None = false
is_other_value v (Some w) = not (w.value == v)

-- whether a guess of register t has another value than the one that was found
abbrev pub is_disputed : ℕ → List PendingGuess → Option Word → Bool
is_disputed t ps None = false
is_disputed t ps (Some w) = list_any (is_other_guess t w.value) ps
