-- What the module of the text of a processor does.
use Rattle.std.proofs.Common.{ℕ, List, Option, Ok}
use Rattle.kp_ast.specs.declared.tree.Job.{Job}
use Rattle.kp_pipeline.specs.{Pipeline.Inputs, Rows.Trace}
use Rattle.kp_net.specs.Netlist.{Net, Input, State}
use Rattle.kp_implements.specs.{Shows.Shows, Anew.trace_from, Anew.BeginsAnew, Traces.inputs_seen, Traces.AreQuiet}
use Rattle.kp_frontend.specs.Judging.{JudgesHead}
use Rattle.kp_described.specs.Sections.{IsWith}
use Rattle.kp_isa.{specs.Runs.Fits, specs.Runs.Retires, specs.Runs.IsProcessor, proofs.Memory.starts_fit, proofs.Memory.reset_fits}
use Rattle.kp_tool.proofs.{Headline.head_unbroken, Executing.head_sentence}
use Rattle.kp_core.specs.{Beginning.Begins, Cores.IsCoreWith, Due.DueFor, Words.write}
use Rattle.kp_core.specs.declared.request.Form.TheVariants.{Module}
use Rattle.kp_core.proofs.{Beginning.along, Promised.correct, Promised.names_kept, Promised.promised}

module _ (head : List ℕ) (base : Job) (Ready : (ℕ → ℕ → ℕ) → Type 0) (Follows : (ℕ → ℕ → ℕ) → Trace → Type 0) (p : IsProcessor head base Ready Follows)
    (input text : List ℕ) (is : IsWith head input) where
  abbrev RunsFrom : Job → (ℕ → ℕ → ℕ) → List Inputs → Trace → Type 0
  RunsFrom job s ins trace = (Ready s → Follows s trace) × Retires base.stages.value ins trace

  module _ (job : Job) (rest : ℕ) (judged : JudgesHead input (Ok (job, rest))) where
    runs_from : (net : Net) → Shows net job → BeginsAnew net job → (s : State) (v : ℕ → ℕ → ℕ) (ins : List Input) → Begins net job s v → AreQuiet ins
        → RunsFrom job v (inputs_seen job ins) (trace_from job net s ins)
    runs_from net shows anew s v ins begins quiet =
        let none = head_unbroken input job rest judged in
        let names = names_kept job none in
        let sentence = head_sentence input job rest judged in
        let has = p.text input sentence.0 job is sentence.1 in
        let fits : Fits job v = along net job shows names (λ w x. Fits job w) (starts_fit job none) (λ x i m r. reset_fits job none net x shows.of_job m) s v begins in
        let given : List Inputs = inputs_seen job ins in
        let trace : Trace = trace_from job net s ins in
        let run = correct job none net shows anew s v ins begins quiet in
        (p.runs job v given trace has fits run.legal, p.retires job given trace has run.moves.0)

  pub core_is : (file : Option (List ℕ)) → DueFor (write Module file) input 0 text → IsCoreWith RunsFrom input text
  core_is file due =
      let p = promised Module input text file due in
      record {
        job = p.job;
        rest = p.rest;
        judged = p.judged;
        ports = p.ports;
        lines = p.lines;
        core = p.core;
        holds = runs_from p.job p.rest p.judged p.core.net p.core.shows p.core.anew;
      }
