-- What holds at power-up, and after each reset, holds wherever a run begins.
use Rattle.std.proofs.Common.{◌≡◌, ℕ, true, List, inl, inr, sym, subst}
use Rattle.kp_ast.specs.declared.tree.Job.{Job}
use Rattle.kp_pipeline.specs.Rows.{pipe}
use Rattle.kp_stage.specs.Start.{start_of}
use Rattle.kp_width.{specs.Widths.widths_of, proofs.Unbroken.Unbroken}
use Rattle.kp_machine.specs.Machine.{machine_of, state_of, start_hints, pipe_of}
use Rattle.kp_net.specs.Netlist.{Net, Input, State, start_of as net_start, state_after}
use Rattle.kp_sched.specs.Runs.{ShowsAlike}
use Rattle.kp_implements.specs.{Naming.value_shown, Shows.Shows, Traces.trace_of, Traces.inputs_seen, Traces.AreQuiet}
use Rattle.kp_implements.specs.Anew.{trace_from, left_by_reset, HasMemory, BeginsAnew}
use Rattle.kp_core.{specs.Beginning.Begins, proofs.Loading.after_loading}

module _ (net : Net) (job : Job) (shows : Shows net job) (names : Unbroken (widths_of job)) where
  pub along : (P : (ℕ → ℕ → ℕ) → State → Type 0) → P (state_of job (start_of job)) (net_start net)
      → ((s : State) (i : Input) → HasMemory net s → i.reset ≡ true → P (left_by_reset job (value_shown job net s)) (state_after net i s))
      → (s : State) (v : ℕ → ℕ → ℕ) → Begins net job s v → P v s
  along P start anew s v (inl b) = subst (λ (w : ℕ → ℕ → ℕ). P w s) (sym b.values) (subst (P (state_of job (start_of job))) (sym b.state) start)
  along P start anew s v (inr b) =
      let h = after_loading net job shows names P anew b.before b.first b.rest b.loads b.memory in
      subst (λ (w : ℕ → ℕ → ℕ). P w s) (sym b.values) (subst (P _) (sym b.state) h)

  at_first : (ins : List Input) → AreQuiet ins → ShowsAlike job (trace_from job net (net_start net) ins) (pipe_of job (inputs_seen job ins))
  unfolding trace_of trace_from
  at_first ins q = shows.runs ins q

  -- it shows the pipelined machine that begins with these values
  pub shown_along : BeginsAnew net job → (s : State) (v : ℕ → ℕ → ℕ) (ins : List Input) → Begins net job s v → AreQuiet ins
      → ShowsAlike job (trace_from job net s ins) (pipe (machine_of job) v (start_hints job) (inputs_seen job ins))
  shown_along anew s v ins b q =
      along (λ w x. ShowsAlike job (trace_from job net x ins) (pipe (machine_of job) w (start_hints job) (inputs_seen job ins))) (at_first ins q)
      (λ x i m r. anew.runs x i ins m r q) s v b
