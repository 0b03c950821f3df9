-- How the commands agree, derived from the specified outcomes.
use Rattle.std.proofs.Common.{◌∙◌, ◌≡◌, ℕ, true, List, [], ◌∷◌, length, None, Some, Ok, Err, inl, inr, refl, ap, sym, subst, arith}
use Rattle.std.{proofs.Math.Path.fun_ext, proofs.lemmas.Bool.cond-true, specs.declared.option.Option.Option}
use Rattle.kp_base.specs.{First.first, declared.refusal.Refusal.Refusal}
use Rattle.kp_ast.specs.declared.tree.Job.{Job}
use Rattle.kp_width.specs.Widths.{widths_of, width_broken}
use Rattle.kp_width.proofs.Listed.{unbroken_widths as names_unbroken}
use Rattle.kp_image.specs.Sections.{sections_of}
use Rattle.kp_frontend.specs.Judging.{Judges, JudgesHead, broken_in}
use Rattle.kp_frontend.proofs.Verdicts.{one_verdict}
use Rattle.kp_stage.{specs.Counts.summary_of, specs.Stages.broken_of, specs.Start.start_of, specs.Start.input as samples_at, proofs.Unbroken.first_none}
use Rattle.kp_pipeline.specs.{Accepted.Accepted, Pipeline.Inputs, Rows.Row, Rows.Trace, Rows.counts, Rows.passed, Rows.taken}
use Rattle.kp_pipeline.proofs.{Counts.counts-passed, Legality.legal}
use Rattle.kp_machine.specs.Machine.{machine_of, state_of, start_hints, pipe_of, inputs_from, values_in}
use Rattle.kp_machine.proofs.Sampleless.{same_run}
use Rattle.kp_net.specs.Netlist.{Net, Input}
use Rattle.kp_sched.specs.Runs.{passes, due_value, ShowsAlike}
use Rattle.kp_sched.proofs.Runs.{alike_is_legal}
use Rattle.kp_implements.specs.{Naming.module_name, Traces.trace_of, Traces.inputs_seen}
use Rattle.kp_run.{specs.Cycles.inputs_to, specs.Cycles.own_trace, proofs.Inputs.seen_to, proofs.Inputs.quiet_to}
use Rattle.kp_watch.specs.Watching.{Agrees}
use Rattle.kp_vcd.specs.Dumps.{own_run}
use Rattle.kp_equiv.specs.Showing.{ShowsButName}
use Rattle.kp_timing.specs.Unfit.{untimed}
use Rattle.kp_words.specs.declared.commands.JobCommand.{JobCommand, TheVariants.Seq, TheVariants.Check, TheVariants.Sim, TheVariants.Timing, TheVariants.Pipe}
use Rattle.kp_words.specs.declared.commands.Command.TheVariants.{OnJob, Read, Watch}
use Rattle.kp_report.specs.{States.sequential_text, States.text_after, Runs.run_text, Runs.sim_text, Runs.counts_behind}
use Rattle.kp_report.proofs.Sims.{rows_many}
use Rattle.kp_tool.specs.{Due.DueFor, Due.DueOfJob, Due.DueOfTiming, Read.ReadsVerilog, Refused.Breaks, Refused.own_rule}
use Rattle.kp_tool.specs.Watched.{DueOfNetlist, agrees, differs, of_other, of_job}
use Rattle.kp_tool.specs.Agreeing.{sequential_state, IsSequential, IsChecked, IsFaulty, IsReadBack}
use Rattle.kp_tool.proofs.{Differences.agrees_everywhere, Dues.denoted_is_due, Restarting.shorter_begins}
use Rattle.kp_tool.proofs.Headline.{accepted_machine, judged_unbroken, head_unbroken, same_trace}

-- ---- `sim` and `seq`

stages_are : (job : Job) → (machine_of job).stages ≡ job.stages.value
unfolding machine_of
stages_are job = refl

module _ (job : Job) (n : ℕ) where
  abbrev own_rows : List Row
  own_rows = (own_run job n).rows

  passes_are : (T t : ℕ) → (machine_of job).has_result t ≡ true → passes job own_rows T t ≡ passed own_rows ((machine_of job).write_stage t) T
  unfolding passes
  passes_are T t has = cond-true ((machine_of job).has_result t) _ _ has

  -- the count of a write stage, for which no guess is pending any more, is the number of the instructions that have passed it
  count_is : Accepted (machine_of job) → (t : ℕ) → (machine_of job).has_result t ≡ true
      → passes job own_rows (length own_rows) t ≡ counts_behind job.stages.value own_rows ((machine_of job).write_stage t)
  count_is acc t has =
      let k : ℕ = (machine_of job).write_stage t in
      passes_are (length own_rows) t has
      ∙ sym (counts-passed (machine_of job) (state_of job (start_of job)) (start_hints job) (inputs_from job 0 n) acc k (length own_rows) (acc.writes t has) (acc.window t has))
      ∙ ap (λ (m : ℕ). counts m own_rows (length own_rows) k) (stages_are job)

  -- without samples, the sequential machine has the same states whatever the samples are
  value_is : (summary_of job).samples ≡ 0 → (t a : ℕ)
      → due_value job (inputs_from job 0 n) own_rows n t a ≡ sequential_state job (passes job own_rows (length own_rows) t) t a
  unfolding due_value
  value_is none t a =
      ap (λ (s : ℕ → ℕ → ℕ). s t a) (same_run job none (taken (machine_of job) (inputs_from job 0 n) own_rows) (λ i. values_in (samples_at job i)) (passes job own_rows n t))
      ∙ ap (λ (T : ℕ). sequential_state job (passes job own_rows T t) t a) (sym (rows_many job n))

  run_is : (summary_of job).samples ≡ 0 → sim_text n job ≡ run_text job own_rows (λ t. sequential_state job (passes job own_rows (length own_rows) t) t)
  unfolding sim_text
  run_is none =
      let same : due_value job (inputs_from job 0 n) own_rows n ≡ (λ (t : ℕ). sequential_state job (passes job own_rows (length own_rows) t) t)
      = fun_ext (λ t. fun_ext (λ a. value_is none t a)) in
      ap (run_text job own_rows) same

seq_states : (input : List ℕ) (job : Job) → Judges input (Ok job) → (count : ℕ) (answer : List ℕ) → DueFor (Some (OnJob (Seq count))) input 0 answer
    → answer ≡ text_after count job.decls (sequential_state job count)
seq_states input job judged count answer (Ok other, judged_too, said) =
    let same : other ≡ job = cc (one_verdict input _ _ judged_too judged) in
    said.1 ∙ ap (λ (j : Job). sequential_text count j) same
seq_states input job judged count answer (Err refusal, judged_too, said) = absurd (omega (arith, said.0))

pub sim_is_sequential : (n : ℕ) (input text : List ℕ) → DueFor (Some (OnJob (Sim n))) input 0 text → IsSequential n input text
sim_is_sequential n input text (Ok job, judged, due) = record {
  job = job;
  judged = judged;
  counts = count_is job n (accepted_machine job (judged_unbroken input job judged));
  values = λ none. due.1 ∙ run_is job n none;
  states = seq_states input job judged;
  shorter = λ m b. shorter_begins job m n b;
}
sim_is_sequential n input text (Err refusal, judged, due) = absurd (omega (arith, due.0))

-- ---- `check` and all commands on a job

module _ (input : List ℕ) (job : Job) (judged : Judges input (Ok job)) where
  own_only : (command : JobCommand) (refusal : Refusal) → Breaks (OnJob command) input refusal → own_rule command job ≡ Some refusal
  own_only command refusal (inl broken) = cc (one_verdict input _ _ judged broken)
  own_only command refusal (inr (other, judged_too, own)) =
      let same : other ≡ job = cc (one_verdict input _ _ judged_too judged) in
      subst (λ (j : Job). own_rule command j ≡ Some refusal) same own

  zero_of_timing : (count : ℕ) (other : Job) (status : ℕ) (answer : List ℕ) (found : Option Refusal) → found ≡ None → DueOfTiming count other found status answer → status ≡ 0
  zero_of_timing count other status answer (Some refusal) none said = cc none
  zero_of_timing count other status answer None none said = said.0

  zero_of_job : (command : JobCommand) (other : Job) (status : ℕ) (answer : List ℕ) → own_rule command other ≡ None → DueOfJob command other status answer → status ≡ 0
  zero_of_job (Timing count) other status answer none said = zero_of_timing count other status answer (untimed other) none said
  zero_of_job _ other status answer none said = said.0

  zero_for : (command : JobCommand) (status : ℕ) (answer : List ℕ) → own_rule command job ≡ None → DueFor (Some (OnJob command)) input status answer → status ≡ 0
  zero_for command status answer none (Ok other, judged_too, said) =
      let same : job ≡ other = cc (one_verdict input _ _ judged judged_too) in
      zero_of_job command other status answer (subst (λ (j : Job). own_rule command j ≡ None) same none) said
  zero_for command status answer none (Err refusal, judged_too, said) = cc (one_verdict input _ _ judged judged_too)

pub check_is_right : (input text : List ℕ) → DueFor (Some (OnJob Check)) input 0 text → IsChecked input text
check_is_right input text (Ok job, judged, said) = record {
  job = job;
  judged = judged;
  printed = said.1;
  own = own_only input job judged;
  zero = zero_for input job judged;
}
check_is_right input text (Err refusal, judged, said) = absurd (omega (arith, said.0))

-- ---- a fault that `watch` finds

-- the rules of widths and of sections, which are among those of a job
unbroken_widths : (job : Job) → broken_in job ≡ None → first (widths_of job).asked ≡ None
unfolding broken_in
unbroken_widths job none = names_unbroken job (first_none (width_broken job) (broken_of job ∷ first (sections_of job).asked ∷ []) none).0

unbroken_sections : (job : Job) → broken_in job ≡ None → first (sections_of job).asked ≡ None
unfolding broken_in
unbroken_sections job none =
    let names = first_none (width_broken job) (broken_of job ∷ first (sections_of job).asked ∷ []) none in
    let stages = first_none (broken_of job) (first (sections_of job).asked ∷ []) names.1 in
    (first_none (first (sections_of job).asked) [] stages.1).0

-- a netlist that implements the job agrees with the sequential machine under the job's own inputs
pub shown_agrees : (job : Job) → broken_in job ≡ None → (net : Net) (n : ℕ) → ShowsButName net job
    → ShowsAlike job (own_trace job net n) (pipe_of job (inputs_from job 0 n))
shown_agrees job none net n shows =
    let ins : List Input = inputs_to job n in
    subst (λ (seen : List Inputs). ShowsAlike job (trace_of job net ins) (pipe_of job seen)) (seen_to job (unbroken_widths job none) (unbroken_sections job none) n)
    (subst (λ (trace : Trace). ShowsAlike job trace (pipe_of job (inputs_seen job ins))) (same_trace net job (module_name job) ins) (shows.runs ins (quiet_to job n)))

pub agrees_if_shown : (job : Job) → broken_in job ≡ None → (net : Net) (n : ℕ) → ShowsButName net job → Agrees job net n
agrees_if_shown job none net n shows =
    alike_is_legal job (inputs_from job 0 n) _ _ (shown_agrees job none net n shows)
    (legal (machine_of job) (state_of job (start_of job)) (start_hints job) (inputs_from job 0 n) (accepted_machine job none))

module _ (n : ℕ) (input text : List ℕ) (job : Job) (rest : ℕ) (judged : JudgesHead input (Ok (job, rest))) (net : Net) (denotes : ReadsVerilog input rest (Ok net)) where
  faulty_netlist : DueOfNetlist n job net 7 text → IsFaulty n input text
  faulty_netlist (of_other differs_from said) = absurd (omega (arith, said.0))
  faulty_netlist (of_job is (agrees all said)) = absurd (omega (arith, said.0))
  faulty_netlist (of_job is (differs T t a first_there said)) = record {
    job = job;
    rest = rest;
    judged = judged;
    net = net;
    denotes = denotes;
    of_job = is;
    cycle = T;
    target = t;
    address = a;
    first = first_there;
    printed = said.1;
    fault = λ shows. agrees_everywhere job net n T t a (agrees_if_shown job (head_unbroken input job rest judged) net n shows) first_there;
  }

pub watch_finds_a_fault : (n : ℕ) (input text : List ℕ) → DueFor (Some (Watch n)) input 7 text → IsFaulty n input text
watch_finds_a_fault n input text (Ok (job, rest), judged, (Ok net, denotes, due)) = faulty_netlist n input text job rest judged net denotes due
watch_finds_a_fault n input text (Ok (job, rest), judged, (Err refusal, misread, said)) = absurd (omega (arith, said.0))
watch_finds_a_fault n input text (Err refusal, judged, said) = absurd (omega (arith, said.0))

-- ---- `pipe` and `read`

pub pipe_is_read : (input text : List ℕ) → DueFor (Some (OnJob Pipe)) input 0 text → IsReadBack input text
pipe_is_read input text (Ok job, judged, (zero, verilog)) short =
    subst (λ (answer : List ℕ). DueFor (Some Read) text 0 answer) (sym verilog.canonical) (denoted_is_due text verilog.net short verilog.denotes)
pipe_is_read input text (Err refusal, judged, said) short = absurd (omega (arith, said.0))
