-- The state of a machine after a run is that of the sequential machine of its job.
use Rattle.std.proofs.Common.{◌≡◌, ◌∙◌, ℕ, List, refl, ap, sym}
use Rattle.kp_bits.specs.Word.{Word}
use Rattle.kp_ast.specs.declared.tree.Job.{Job}
use Rattle.kp_stage.specs.{Start.start_of, Start.input, declared.start.Start.Start}
use Rattle.kp_pipeline.specs.Sequential.{seq}
use Rattle.kp_machine.specs.Machine.{machine_of, state_of, sequential, values_in}
use Rattle.kp_report.specs.States.{State}

-- the run over these input vectors
abbrev run : Job → State → (ℕ → List Word) → ℕ → State
run job s rows i = seq (machine_of job) s (λ j. values_in (rows j)) i

none_done : (job : Job) (s : State) (rows : ℕ → List Word) → run job s rows 0 ≡ s
unfolding seq
none_done job s rows = refl

-- no instruction has been executed yet
pub at_first : (job : Job) (s : State) (rows : ℕ → List Word) → s ≡ run job s rows 0
at_first job s rows = sym (none_done job s rows)

-- opened in the start state of its job, with a number of instructions executed over the job's input vectors
pub run_is_sequential : (job opened : Job) (begin : Start) (rows : ℕ → List Word) (first last : State) (i : ℕ) → opened ≡ job → begin ≡ start_of job → rows ≡ input job
    → first ≡ state_of job begin → last ≡ run opened first rows i → last ≡ sequential job (λ j. values_in (input job j)) i
run_is_sequential job opened begin rows first last i same begins given starts ran =
    ran ∙ ap (λ (j : Job). run j first rows i) same
    ∙ ap (λ (s : State). run job s rows i) (starts ∙ ap (state_of job) begins)
    ∙ ap (λ (r : ℕ → List Word). run job (state_of job (start_of job)) r i) given
