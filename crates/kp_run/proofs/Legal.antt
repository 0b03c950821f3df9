-- From a netlist that implements the machine of a job to the job's pipeline.
use Rattle.std.proofs.Common.{◌≡◌, ◌∙◌, ℕ, zero, suc, ◌≤◌, List, length, None, refl, ap, sym, arith}
use Rattle.kp_base.specs.{First.first, declared.row.Row.Row}
use Rattle.kp_ast.specs.declared.tree.Job.{Job}
use Rattle.kp_width.specs.Widths.{widths_of}
use Rattle.kp_image.specs.Sections.{sections_of}
use Rattle.kp_pipeline.{specs.Pipeline.Inputs, specs.Pipeline.pipeline_start, specs.Rows.Trace, proofs.Taken.rows-length}
use Rattle.kp_pipeline.specs.Rows as law
use Rattle.kp_stage.specs.Start.{start_of}
use Rattle.kp_machine.specs.{Machine.machine_of, Machine.state_of, Machine.start_hints, Machine.inputs_from, Machine.pipe_of, Words.HasWord}
use Rattle.kp_net.specs.Netlist.{Net}
use Rattle.kp_sched.specs.{Monitors.Kept, Rows.rows_seen, Runs.due_value, Runs.IsLegal, Runs.ShowsAlike}
use Rattle.kp_sched.proofs.Counting.{seen_length}
use Rattle.kp_implements.specs.{Shows.Shows, Traces.trace_of}
use Rattle.kp_run.{specs.Boards.due_behind, specs.Cycles.inputs_to, specs.Cycles.HasRows, proofs.Inputs.seen_to, proofs.Inputs.quiet_to}

pub inputs_many : (job : Job) (cycle n : ℕ) → length (inputs_from job cycle n) ≡ n
inputs_many job cycle zero = refl
inputs_many job cycle (suc n) = ap suc (inputs_many job (suc cycle) n)

module _ (job : Job) (widths : first (widths_of job).asked ≡ None) (sections : first (sections_of job).asked ≡ None)
    (net : Net) (n : ℕ) (rows : List Row) (monitor : Kept) (shows : Shows net job) (has : HasRows job net n rows monitor) where
  abbrev piped : Trace
  piped = pipe_of job (inputs_from job 0 n)

  pub traced : rows_seen job.stages.value rows ≡ (trace_of job net (inputs_to job n)).rows
  unfolding trace_of
  traced = ap (rows_seen job.stages.value) has.rows

  pub rows_of_pipe : rows_seen job.stages.value rows ≡ piped.rows
  rows_of_pipe =
      traced
      ∙ (shows.runs (inputs_to job n) (quiet_to job n)).rows
      ∙ ap (λ (ins : List Inputs). (pipe_of job ins).rows) (seen_to job widths sections n)

  many : length piped.rows ≡ n
  many = rows-length (machine_of job) (pipeline_start (state_of job (start_of job)) (start_hints job)) (inputs_from job 0 n) ∙ inputs_many job 0 n

  pub as_many : length rows ≡ n
  as_many = sym (seen_length job.stages.value rows) ∙ ap (λ (l : List law.Row). length l) rows_of_pipe ∙ many

  pub values_of_pipe : (t a : ℕ) → IsLegal job (inputs_from job 0 n) piped → HasWord job t a → piped.visible n t a ≡ due_behind job rows t a
  values_of_pipe t a legal word =
      legal n t a (let e : n ≤ length piped.rows = omega (arith, many) in e) word
      ∙ ap (λ (l : List law.Row). due_value job (inputs_from job 0 n) l n t a) (sym rows_of_pipe)
      ∙ ap (λ (m : ℕ). due_value job (inputs_from job 0 m) (rows_seen job.stages.value rows) m t a) (sym as_many)

pub alike_itself : (job : Job) (a : Trace) → ShowsAlike job a a
alike_itself job a = record { rows = refl; values = λ T t x h w. refl }
