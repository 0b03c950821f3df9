-- The states of a netlist that implements the machine of a job are those of its pipeline.
use Rattle.std.proofs.Common.{◌≡◌, ◌∙◌, ℕ, ◌≤◌, List, length, ap, sym, arith}
use Rattle.kp_ast.specs.declared.tree.Job.{Job}
use Rattle.kp_pipeline.specs.Pipeline.{Inputs}
use Rattle.kp_machine.specs.{Machine.inputs_from, Machine.pipe_of, Words.HasWord}
use Rattle.kp_net.specs.Netlist.{Net, State, run}
use Rattle.kp_run.{specs.Cycles.inputs_to, proofs.Prefixes.rows_many, proofs.Prefixes.state_is}
use Rattle.kp_sched.proofs.Counting.{seen_length}
use Rattle.kp_implements.specs.{Naming.value_shown, Shows.Shows, Traces.trace_of, Traces.inputs_seen, Traces.AreQuiet}
use Rattle.kp_page.{specs.States.recorded, specs.States.states_text, specs.inner.Seen.states_of, proofs.Alike.recorded_alike}

module _ (job : Job) (net : Net) (n : ℕ) (shows : Shows net job)
    (seen : inputs_seen job (inputs_to job n) ≡ inputs_from job 0 n) (quiet : AreQuiet (inputs_to job n)) where
  state_shown : (T : ℕ) → T ≤ n → (t a : ℕ) → HasWord job t a → states_of job net T t a ≡ (pipe_of job (inputs_from job 0 n)).visible T t a
  unfolding trace_of
  state_shown T h t a there =
      let many : length (trace_of job net (inputs_to job n)).rows ≡ n = seen_length job.stages.value (run net (inputs_to job n)).rows ∙ rows_many job net n in
      ap (λ (st : State). value_shown job net st t a) (sym (state_is job net n T h))
      ∙ (shows.runs (inputs_to job n) quiet).values T t a (let e : T ≤ length (trace_of job net (inputs_to job n)).rows = omega (arith, many, h) in e) there
      ∙ ap (λ (ins : List Inputs). (pipe_of job ins).visible T t a) seen

  pub text_is : recorded job.decls (states_of job net) n ≡ states_text job n
  text_is = recorded_alike job (states_of job net) (pipe_of job (inputs_from job 0 n)).visible n state_shown
