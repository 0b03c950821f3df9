-- The values of a job's pipelined machine are those that its sequential machine computes.
use Rattle.std.proofs.Common.{◌≡◌, ℕ, ◌≤◌, List, length, true, false, sym, subst}
use Rattle.kp_ast.specs.declared.tree.Job.{Job}
use Rattle.kp_stage.specs.Start.{start_of}
use Rattle.kp_pipeline.specs.{Accepted.Accepted, Pipeline.Inputs, Pipeline.pipeline_start, Rows.passed, Sequential.seq}
use Rattle.kp_pipeline.proofs.{Taken.rows-length, Legality.legal}
use Rattle.kp_machine.specs.Machine.{machine_of, state_of, start_hints, sequential, pipe_of, taken_of}

module _ (job : Job) (accepted : Accepted (machine_of job)) (ins : List Inputs) (T t a : ℕ) (within : T ≤ length ins) where
  in_rows : T ≤ length (pipe_of job ins).rows
  in_rows = subst (λ n. T ≤ n) (sym (rows-length (machine_of job) (pipeline_start (state_of job (start_of job)) (start_hints job)) ins)) within

  pub shown : (machine_of job).has_result t ≡ true
      → (pipe_of job ins).visible T t a ≡ sequential job (taken_of job ins) (passed (pipe_of job ins).rows ((machine_of job).write_stage t) T) t a
  shown h = (legal (machine_of job) (state_of job (start_of job)) (start_hints job) ins accepted T in_rows t a).0 h

  pub stays : (machine_of job).has_result t ≡ false → (pipe_of job ins).visible T t a ≡ sequential job (taken_of job ins) 0 t a
  unfolding seq
  stays h = (legal (machine_of job) (state_of job (start_of job)) (start_hints job) ins accepted T in_rows t a).1 h
