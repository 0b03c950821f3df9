-- The sequential machine, instruction by instruction.
use Rattle.std.proofs.Common.{◌≡◌, ◌∙◌, ℕ, suc, ◌+◌, List, length, Result, Ok, Err, ap, arith}
use Rattle.std.specs.Prelude.{IfOk}
use Rattle.kp_ast.specs.declared.tree.Job.{Job}
use Rattle.kp_bits.specs.Word.{Word}
use Rattle.kp_pipeline.specs.{Rows.Row, Rows.taken, Sequential.exec}
use Rattle.kp_stage.specs.{Start.AreSamples, Start.input, Start.start_of, declared.start.Start.Start}
use Rattle.kp_machine.specs.{Machine.inputs_from, Machine.machine_of, Machine.sequential, Machine.state_of, Machine.values_in}
use Rattle.kp_net.specs.Netlist.{Net}
use Rattle.kp_run.{specs.Columns.AreColumns, specs.Columns.Taken, proofs.Gathering.taken_is, proofs.Machines.next_is, proofs.Machines.opened_is}
use Rattle.kp_seq.specs.Running.{Running, state}
use Rattle.kp_until_run.{specs.Ending.own_rows, proofs.Reaching.Agree, proofs.Reaching.many, proofs.Reaching.net_rows}
use Rattle.kp_diagram_labels.specs.{Texts.taken_in, inner.Runs.HasRun, inner.Runs.given}

pub one_more : (job : Job) (values : ℕ → ℕ → ℕ) (i : ℕ) (old new : Running) (row : List Word) → HasRun job values i old → new.job ≡ old.job
    → state new ≡ exec (machine_of old.job) (state old) (values_in row) → values_in row ≡ values i → HasRun job values (i + 1) new
one_more job values i old new row run same stepped reads = record {
  job_is = same ∙ run.job_is;
  state_is =
      stepped
      ∙ (λ k. exec (machine_of (run.job_is k)) (run.state_is k) (reads k))
      ∙ next_is job _ values i
      ∙ ap (sequential job values) (let e : suc i ≡ i + 1 = omega arith in e);
}

pub opened_run : {E : Type 0} (job : Job) (begin : Start) (result : Result Running E) → IfOk result (λ m. m.job ≡ job) → IfOk result (λ m. state m ≡ state_of job begin)
    → begin ≡ start_of job → IfOk result (λ m. (values : ℕ → ℕ → ℕ) → HasRun job values 0 m)
opened_run job begin (Ok m) same at begins = λ values. record { job_is = same; state_is = at ∙ ap (state_of job) begins ∙ opened_is job values }
opened_run job begin (Err e) same at begins = tt

-- the samples are those that the instructions of the run take
module _ (job : Job) (net : Net) (agree : Agree job net) (limit : ℕ) (columns : List Taken) (given_fit : (cycle : ℕ) → AreSamples job.decls (input job cycle))
    (are : AreColumns job (net_rows job net limit) columns) where
  pub given_are : given columns ≡ taken_in job limit
  given_are =
      taken_is job (net_rows job net limit) columns given_fit are
      ∙ ap (λ (rows : List Row). taken (machine_of job) (inputs_from job 0 (length rows)) rows) (agree limit)
      ∙ ap (λ (m : ℕ). taken (machine_of job) (inputs_from job 0 m) (own_rows job limit)) (many job net agree limit)
