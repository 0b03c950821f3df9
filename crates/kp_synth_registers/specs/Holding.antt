-- CELLS THAT HOLD A STATE of the pipeline.
use Rattle.std.specs.Prelude.{◌≡◌, ℕ, suc, ◌<◌, ◌^◌, ◌%◌, ◌/◌, List, [], ◌∷◌, length, get_or, Option, Some, None, Bool, true, false, ◌&&◌, ◌||◌, ◌==◌, if◌then◌else◌}
use Rattle.std.specs.List.{list_any}
use Rattle.kp_ast.specs.declared.tree.Job.{Job}
use Rattle.kp_pipeline.specs.Machine.{State}
use Rattle.kp_pipeline.specs.{Sequential.PendingGuess, Pipeline.PipelineState, Pipeline.Inputs, Pipeline.stage_zero}
use Rattle.kp_machine.specs.{Slots.targets_of, Slots.pipes_of, Slots.hints_of, Slots.samples_of, Slots.is_register, Machine.files_before}
use Rattle.kp_net.specs.{Nodes.Cells, Netlist.Input}
use Rattle.kp_synth_registers.specs.declared.key.Key.{Key}
use Rattle.kp_synth_registers.specs.declared.key.Key.TheVariants.{Visible, Full, Pipe, Valid, Value, Pending, Guess, Hint}
use Rattle.kp_design.specs.declared.guess.GuessSlot.{GuessSlot}
use Rattle.kp_design.specs.{Numbers.target_at, Numbers.sample_at, Numbers.guesses_of, Spans.is_carried, Spans.is_kept, Spans.is_piped, Spans.is_stored}
use Rattle.kp_synth_registers.specs.Keys.{key_width, place_of}

-- The value of the register of a key: what a node of the key's width reads there.
unfoldable pub kept_in : Job → Cells → Key → ℕ
kept_in job c key = c.reg (place_of job key) % 2 ^ key_width job key

-- A bit and a value as an optional value.
abbrev pub optional : Bool → ℕ → Option ℕ
optional true v = Some v
optional false v = None

-- A target's own word at an address. A register is a target with one word, and a file has its number among the files.
unfoldable pub own_word : Job → Cells → State
own_word job c t a =
    if is_register (target_at job t) then kept_in job c (Visible t)
    else c.word (files_before (targets_of job.decls) t) a % 2 ^ (target_at job t).width

-- A pending guess with this value.
abbrev pub pending_guess : GuessSlot → ℕ → PendingGuess
pending_guess g v = record { register = g.register; value = v }

-- Whether a test is true of one of the guesses that are numbered from g on.
abbrev pub some_of : (ℕ → GuessSlot → Bool) → ℕ → List GuessSlot → Bool
some_of test g [] = false
some_of test g (s ∷ ss) = test g s || some_of test (suc g) ss

-- A guess is carried to stage k, is pending there by the cells, and passes a test.
abbrev pub guess_passes : Job → Cells → ℕ → (PendingGuess → Bool) → ℕ → GuessSlot → Bool
guess_passes job c k test g s =
    is_carried s k && ((kept_in job c (Pending g k) == 1) && test (pending_guess s (kept_in job c (Guess g k))))

unfoldable pub some_guess : Job → Cells → ℕ → (PendingGuess → Bool) → Bool
some_guess job c k test = some_of (guess_passes job c k test) 0 (guesses_of job)

-- Bit k of a bit vector.
abbrev pub word_bit : ℕ → ℕ → Bool
word_bit word k = word / 2 ^ k % 2 == 1

-- THE RELATION between the cells in a cycle, the state of the pipeline at its start and the inputs. What the netlist
-- doesn't store isn't constrained: a result after its write stage, and the value of a result that isn't set, or of a
-- guess that isn't pending. A pipe that a stage doesn't store is 0 there, and a result that it doesn't store isn't
-- set. The pending guesses of a stage are constrained only by which tests some of them passes, so their order doesn't
-- matter.
pub record Holds (job : Job) (c : Cells) (st : PipelineState) (i : Inputs) : Type 0 where
  pub first : st.stage 0 ≡ stage_zero
  pub full : (k : ℕ) → 0 < k → k < job.stages.value → (kept_in job c (Full k) == 1) ≡ (st.stage k).full
  pub pipes : (x k : ℕ) → x < length (pipes_of job.decls) → is_piped job x k ≡ true → 0 < k → k < job.stages.value
      → kept_in job c (Pipe x k) ≡ (st.stage k).instruction.pipes x
  pub absent : (x k : ℕ) → x < length (pipes_of job.decls) → is_piped job x k ≡ false → (st.stage k).instruction.pipes x ≡ 0
  pub results : (t k : ℕ) → t < length (targets_of job.decls) → is_stored job t k ≡ true → 0 < k → k < job.stages.value
      → optional (kept_in job c (Valid t k) == 1) (kept_in job c (Value t k)) ≡ (st.stage k).instruction.results t
  pub unset : (t k : ℕ) → t < length (targets_of job.decls) → is_kept job t k ≡ true → is_stored job t k ≡ false
      → (st.stage k).instruction.results t ≡ None
  pub pending : (k : ℕ) → 0 < k → k < job.stages.value → (test : PendingGuess → Bool)
      → some_guess job c k test ≡ list_any test (st.stage k).pending
  pub hints : (h : ℕ) → h < length (hints_of job.decls) → kept_in job c (Hint h) ≡ st.hints h
  pub visible : (t a : ℕ) → t < length (targets_of job.decls) → a < 2 ^ (target_at job t).address → own_word job c t a ≡ st.visible t a
  pub ext : (k : ℕ) → k < job.stages.value → word_bit (c.ext % 2 ^ job.stages.value) k ≡ i.ext k
  pub samples : (x : ℕ) → x < length (samples_of job.decls) → c.sample x % 2 ^ (sample_at job x).width ≡ i.samples x

-- The inputs of the pipeline in a cycle of the netlist.
abbrev pub inputs_of : Job → Input → Inputs
inputs_of job i = record {
  ext = word_bit (i.ext % 2 ^ job.stages.value);
  samples = λ x. get_or i.samples x 0 % 2 ^ (sample_at job x).width;
}
