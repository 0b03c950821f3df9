-- The headline, derived from the specified outcomes.
use Rattle.std.proofs.Common.{◌∙◌, ◌≡◌, ◌≤◌, ◌-◌, ℕ, List, length, get_or, drop, None, Some, Ok, Err, refl, sym, subst, arith}
use Rattle.std.specs.declared.{option.Option.Option, result.Result.Result}
use Rattle.kp_base.specs.declared.refusal.Refusal.{Refusal}
use Rattle.kp_bits.specs.Word.{Word}
use Rattle.kp_ast.specs.declared.tree.Job.{Job}
use Rattle.kp_stage.{specs.Start.start_of, proofs.Unbroken.first_none}
use Rattle.kp_pipeline.specs.{Accepted.Accepted, Pipeline.Inputs, Rows.Row, Rows.Trace, Rows.pipe, Rows.taken, Timeline.start_hold}
use Rattle.kp_pipeline.specs.{SpeculativeTimeline.timeline_rows as path_rows, RightPath.NoWrongGuess, RightPath.WaitsOnlyWhereItMust, RightPath.first_moment}
use Rattle.kp_pipeline.proofs.{Legality.legal, Progress.moves, Progress.never-squashed, Timeline.same-rows, Runs.rows-right, Runs.waits-only}
use Rattle.kp_pipeline.proofs.Sampled.{rows-taking}
use Rattle.kp_machine.proofs.{Accepting.accepted, Guessless.guessless, Guessless.without_guess}
use Rattle.kp_machine.specs.{Machine.machine_of, Machine.state_of, Machine.start_hints, Machine.pipe_of, Machine.inputs_from, Words.target}
use Rattle.kp_sched.specs.{Rows.rows_seen, Runs.due_value, Runs.IsLegal, Runs.ShowsAlike}
use Rattle.kp_sched.proofs.Runs.{alike_is_legal, alike_moves, alike_stays}
use Rattle.kp_implements.specs.{Legal.IsLegalFrom, Anew.trace_from, Anew.left_by_reset, Anew.HasMemory, Anew.BeginsAnew}
use Rattle.kp_implements.specs.{Naming.module_name, Naming.value_shown, Naming.value_of, Shows.Shows, Traces.inputs_seen, Traces.trace_of, Traces.no_state}
use Rattle.kp_implements.proofs.Legal.{alike_is_legal_from}
use Rattle.kp_width.proofs.Listed.{unbroken_widths}
use Rattle.kp_frontend.specs.Judging.{Judges, broken_in, JudgesHead, Judges.within, JudgesText.accepted as no_rule_broken, JudgesHeadText.head_accepted}
use Rattle.kp_frontend.specs.Judging.JudgesHead.{head_within}
use Rattle.kp_words.specs.declared.commands.JobCommand.TheVariants.{Sim, Vcd, Timing, Pipe}
use Rattle.kp_words.specs.declared.commands.Command.TheVariants.{OnJob, Watch, Compare, Debug, Generate}
use Rattle.kp_report.{specs.Runs.sim_text, proofs.Sims.rows_many, specs.Line.gen_text, specs.Line.totals_of, specs.Line.totals_line}
use Rattle.kp_gen.{specs.Generated.gen_job, proofs.Unbroken.generated_unbroken}
use Rattle.kp_vcd.specs.{Held.held, Held.Changes, Dumps.own_run, Dumps.values_at, Dumps.vcd_dump}
use Rattle.kp_vcd.proofs.{Holding.recorded_held, Holding.recorded_new, Lasting.run_lasts}
use Rattle.kp_timing.{specs.Unfit.untimed, proofs.Plain.has_timeline}
use Rattle.kp_paths.proofs.CellLaws.{are_paths}
use Rattle.kp_tool.proofs.{Bypassed.never_waits, Rollbacks.rollbacks_lose}
use Rattle.kp_tool.specs.Headline.{IsMoving, HasNoNeedlessStall, HasNoNeedlessStallFrom, IsCorrect, IsCorrectFrom, IsVerilogWith, IsRunWith, IsDumpedWith, IsGeneratedWith, IsTimed, IsDebuggedWith, IsNetlistWith, IsPairAlike, IsPairDifferent, Implements, IsImplementation, RunsWith, IsPairWith}
use Rattle.kp_tool.specs.{Due.DueFor, Due.DueOfTiming, Read.ReadsVerilog, Retiring.IsInTime}
use Rattle.kp_tool.specs.{Watched.agrees, Watched.differs, Watched.DueOfNetlist, Watched.of_other, Watched.of_job, Compared.jobs, Compared.DueOfModules}
use Rattle.kp_tool.proofs.{Retiring.in_time, Restarting.restarts_alike}
use Rattle.kp_tool.{specs.Scripted.DueOfScript, proofs.Pairs.first_right, proofs.Pairs.second_right, proofs.Pairs.comparable_pair}
use Rattle.kp_net.specs.Netlist.{Net, Input, State, start_of as begin_of, state_after, last_of}
use Rattle.kp_vlog.specs.Splitting.{FirstEnds}
use Rattle.kp_equiv.specs.{declared.verdict.Verdict.TheVariants.Same, declared.verdict.Verdict.TheVariants.Differs, Showing.renamed}
use Rattle.kp_equiv.proofs.{Running.theorem, Shown.states_same, Shown.rows_same, Shown.first_shows, Shown.second_shows, Anew.first_begins, Anew.second_begins}
use Rattle.kp_debug_script.specs.{declared.command.Command.Command, Scripts.script_of}
use Rattle.kp_debug.specs.Inspecting.{all_cycles, whole_run}

pub judged_unbroken : (input : List ℕ) (job : Job) → Judges input (Ok job) → broken_in job ≡ None
judged_unbroken input job (within short (no_rule_broken describes none)) = none

pub head_unbroken : (input : List ℕ) (job : Job) (rest : ℕ) → JudgesHead input (Ok (job, rest)) → broken_in job ≡ None
head_unbroken input job rest (head_within short (head_accepted sentence none)) = none

-- so its machine is accepted
pub accepted_machine : (job : Job) → broken_in job ≡ None → Accepted (machine_of job)
unfolding broken_in
accepted_machine job none =
    let names = first_none _ _ none in
    let stages = first_none _ _ names.1 in
    accepted job (unbroken_widths job names.0) stages.0

-- a fact about each accepted pipeline
abbrev pub HoldsOfPipe : (Job → List Inputs → Trace → Type 0) → Type 0
HoldsOfPipe Fact = (job : Job) (ins : List Inputs) → Accepted (machine_of job) → Fact job ins (pipe_of job ins)

legal_pipe : HoldsOfPipe IsLegal
legal_pipe job ins acc =
    alike_is_legal job ins _ _ (record { rows = refl; values = λ T t x h w. refl })
    (legal (machine_of job) (state_of job (start_of job)) (start_hints job) ins acc)

printed_run : (Fact : Job → List Inputs → Trace → Type 0) (n : ℕ) (input text : List ℕ) (job : Job) → Judges input (Ok job) → text ≡ sim_text n job
    → Fact job (inputs_from job 0 n) (pipe_of job (inputs_from job 0 n)) → IsRunWith Fact n input text
unfolding sim_text
printed_run Fact n input text job judged printed holds = record {
  job = job;
  judged = judged;
  printed = printed;
  cycles = rows_many job n;
  holds = holds;
}

-- what is true of each accepted pipeline is true of the run that `sim` prints
pub sim_with : (Fact : Job → List Inputs → Trace → Type 0) → HoldsOfPipe Fact
    → (n : ℕ) (input text : List ℕ) → DueFor (Some (OnJob (Sim n))) input 0 text → IsRunWith Fact n input text
sim_with Fact law n input text (Ok job, judged, due) =
    printed_run Fact n input text job judged due.1 (law job (inputs_from job 0 n) (accepted_machine job (judged_unbroken input job judged)))
sim_with Fact law n input text (Err refusal, judged, due) = absurd (omega (arith, due.0))

-- what is true of each trace that shows an accepted pipeline, from any state on,
abbrev pub HoldsAlike : (Job → (ℕ → ℕ → ℕ) → List Inputs → Trace → Type 0) → Type 0
HoldsAlike Fact =
    (job : Job) (s : ℕ → ℕ → ℕ) (ins : List Inputs) (trace : Trace) → Accepted (machine_of job)
    → ShowsAlike job trace (pipe (machine_of job) s (start_hints job) ins) → Fact job s ins trace

-- is true of the netlist that `pipe` prints
pub pipe_with : (Fact : Job → (ℕ → ℕ → ℕ) → List Inputs → Trace → Type 0) → HoldsAlike Fact
    → (input text : List ℕ) → DueFor (Some (OnJob Pipe)) input 0 text → IsVerilogWith Fact input text
pipe_with Fact law input text (Ok job, judged, (zero, verilog)) =
    let net : Net = verilog.net in
    let acc = accepted_machine job (judged_unbroken input job judged) in
    record {
      job = job;
      judged = judged;
      net = net;
      denotes = verilog.denotes;
      of_job = verilog.shows.of_job;
      outputs = verilog.shows.outputs;
      runs = record {
        holds = λ ins quiet. law job (state_of job (start_of job)) (inputs_seen job ins) (trace_of job net ins) acc (verilog.shows.runs ins quiet);
        anew = λ st i ins there raised quiet. law job (left_by_reset job (value_shown job net st)) (inputs_seen job ins) (trace_from job net (state_after net i st) ins) acc
            (verilog.anew.runs st i ins there raised quiet);
        memory = verilog.anew.memory;
      };
    }
pipe_with Fact law input text (Err refusal, judged, due) = absurd (omega (arith, due.0))

moves_pipe : HoldsOfPipe IsMoving
moves_pipe job ins acc =
    let s : ℕ → ℕ → ℕ = state_of job (start_of job) in
    (moves (machine_of job) s (start_hints job) ins acc, never-squashed (machine_of job) s (start_hints job) ins acc, in_time (machine_of job) s (start_hints job) ins acc)

-- for each trace with the rows of the pipeline from a state on
waits_with : (job : Job) (s : ℕ → ℕ → ℕ) (ins : List Inputs) (trace : Trace) → Accepted (machine_of job)
    → trace.rows ≡ (pipe (machine_of job) s (start_hints job) ins).rows → HasNoNeedlessStallFrom job s ins trace
waits_with job s ins trace acc same = record {
  waits = subst
      (λ (rows : List Row). WaitsOnlyWhereItMust (machine_of job) s (taken (machine_of job) ins rows) (first_moment s (start_hints job)) ins rows)
      (sym same) (waits-only (machine_of job) s (start_hints job) ins acc);
  right = subst
      (λ (rows : List Row). NoWrongGuess (machine_of job) s (taken (machine_of job) ins rows) (start_hints job) start_hold ins
      → rows ≡ path_rows (machine_of job) s (taken (machine_of job) ins rows) start_hold ins)
      (sym same) (rows-right (machine_of job) s (start_hints job) ins acc);
  plain = λ guesses. same ∙ rows-taking (machine_of job) s (start_hints job) ins acc (without_guess job guesses);
  timeline = λ guesses samples. same ∙ same-rows (machine_of job) s (start_hints job) ins acc (guessless job guesses samples);
  rows = same;
  bypassed = never_waits job (are_paths job);
  lost = λ ext. rollbacks_lose (job.stages.value - 1) ext trace.rows;
}

waits_pipe : HoldsOfPipe HasNoNeedlessStall
waits_pipe job ins acc = waits_with job (state_of job (start_of job)) ins (pipe_of job ins) acc refl

pub correct_pipe : HoldsOfPipe IsCorrect
correct_pipe job ins acc = record { legal = legal_pipe job ins acc; moves = moves_pipe job ins acc; no_needless_stall = waits_pipe job ins acc }

-- what `timing` prints for a job that it doesn't reject is the timeline of a job without guesses and samples
timed_job : (n : ℕ) (input text : List ℕ) (job : Job) → Judges input (Ok job) → (found : Option Refusal) → untimed job ≡ found → DueOfTiming n job found 0 text
    → IsTimed n input text
timed_job n input text job judged (Some refusal) is said = absurd (omega (arith, said.0))
timed_job n input text job judged None is said =
    let plain = has_timeline job is in
    record {
      job = job;
      judged = judged;
      guesses = plain.guesses;
      samples = plain.samples;
      printed = said.1;
      rows = same-rows (machine_of job) (state_of job (start_of job)) (start_hints job) (inputs_from job 0 n) (accepted_machine job (judged_unbroken input job judged)) (guessless job plain.guesses plain.samples);
    }

pub timing_is_timed : (n : ℕ) (input text : List ℕ) → DueFor (Some (OnJob (Timing n))) input 0 text → IsTimed n input text
timing_is_timed n input text (Ok job, judged, said) = timed_job n input text job judged (untimed job) refl said
timing_is_timed n input text (Err refusal, judged, said) = absurd (omega (arith, said.0))

-- a dump holds the values of its run
dump_values : (job : Job) (n T s : ℕ) (w : Word) → T ≤ n → get_or (values_at job (own_run job n) T) s None ≡ Some w → held (vcd_dump n job) s T ≡ Some w
unfolding vcd_dump
dump_values job n T s w h e = recorded_held (values_at job (own_run job n)) n (run_lasts job n) T h s w e

dump_changes : (job : Job) (n : ℕ) → Changes (vcd_dump n job)
unfolding vcd_dump
dump_changes job n = recorded_new (values_at job (own_run job n)) n (run_lasts job n)

-- what is true of each accepted pipeline is true of the run that `vcd` dumps
pub vcd_with : (Fact : Job → List Inputs → Trace → Type 0) → HoldsOfPipe Fact
    → (n : ℕ) (input text : List ℕ) → DueFor (Some (OnJob (Vcd n))) input 0 text → IsDumpedWith Fact n input text
vcd_with Fact law n input text (Ok job, judged, due) = record {
  job = job;
  judged = judged;
  printed = due.1;
  cycles = rows_many job n;
  values = dump_values job n;
  changes = dump_changes job n;
  holds = law job (inputs_from job 0 n) (accepted_machine job (judged_unbroken input job judged));
}
vcd_with Fact law n input text (Err refusal, judged, due) = absurd (omega (arith, due.0))

-- and of the run of a generated job that `gen` sums up
gen_run : (Fact : Job → List Inputs → Trace → Type 0) → HoldsOfPipe Fact
    → (number n : ℕ) (text : List ℕ) (job : Job) → job ≡ gen_job number → broken_in job ≡ None
    → text ≡ totals_line number (totals_of job (own_run job n).rows (due_value job (inputs_from job 0 n) (own_run job n).rows n))
    → IsGeneratedWith Fact number n text
gen_run Fact law number n text job is none printed = record {
  job = job;
  generated = is;
  accepted = none;
  printed = printed;
  cycles = rows_many job n;
  holds = law job (inputs_from job 0 n) (accepted_machine job none);
}

pub gen_with : (Fact : Job → List Inputs → Trace → Type 0) → HoldsOfPipe Fact
    → (number n : ℕ) (input text : List ℕ) → DueFor (Some (Generate number n)) input 0 text → IsGeneratedWith Fact number n text
unfolding gen_text
gen_with Fact law number n input text said = gen_run Fact law number n text (gen_job number) refl (generated_unbroken number) said.1

legal_alike : HoldsAlike IsLegalFrom
legal_alike job s ins trace acc alike = alike_is_legal_from job s ins _ _ alike (legal (machine_of job) s (start_hints job) ins acc)

moves_alike : HoldsAlike (λ job s. IsMoving job)
moves_alike job s ins trace acc alike = (
  alike_moves job ins _ _ alike (moves (machine_of job) s (start_hints job) ins acc),
  alike_stays job _ _ alike (never-squashed (machine_of job) s (start_hints job) ins acc),
  subst (IsInTime (machine_of job).stages ins) (sym alike.rows) (in_time (machine_of job) s (start_hints job) ins acc),
)

waits_alike : HoldsAlike HasNoNeedlessStallFrom
waits_alike job s ins trace acc alike = waits_with job s ins trace acc alike.rows

pub correct_alike : HoldsAlike IsCorrectFrom
correct_alike job s ins trace acc alike =
    record { legal = legal_alike job s ins trace acc alike; moves = moves_alike job s ins trace acc alike; no_needless_stall = waits_alike job s ins trace acc alike }

module _ (n : ℕ) (input text : List ℕ) (job : Job) (rest : ℕ) (judged : JudgesHead input (Ok (job, rest))) (net : Net) (denotes : ReadsVerilog input rest (Ok net)) where
  legal_netlist : DueOfNetlist n job net 0 text → IsNetlistWith IsLegal n input text
  legal_netlist (of_other differs_from said) = absurd (omega (arith, said.0))
  legal_netlist (of_job is (differs T t a first said)) = absurd (omega (arith, said.0))
  legal_netlist (of_job is (agrees all said)) = record {
    job = job;
    rest = rest;
    judged = judged;
    net = net;
    denotes = denotes;
    of_job = is;
    printed = said.1;
    holds = all;
  }

pub watch_is_legal : (n : ℕ) (input text : List ℕ) → DueFor (Some (Watch n)) input 0 text → IsNetlistWith IsLegal n input text
watch_is_legal n input text (Ok (job, rest), judged, (Ok net, denotes, due)) = legal_netlist n input text job rest judged net denotes due
watch_is_legal n input text (Ok (job, rest), judged, (Err refusal, misread, said)) = absurd (omega (arith, said.0))
watch_is_legal n input text (Err refusal, judged, said) = absurd (omega (arith, said.0))

module _ (input text : List ℕ) (job : Job) (rest : ℕ) (judged : JudgesHead input (Ok (job, rest))) (short : length input ≤ 16777216) (middle : ℕ)
    (ends : FirstEnds rest (drop rest input) middle) where
  alike_pair : DueOfModules job input rest middle 0 text → IsPairAlike input text
  alike_pair (Err refusal, read, said) = absurd (omega (arith, said.0))
  alike_pair (Ok a, read, (Err refusal, second, said)) = absurd (omega (arith, said.0))
  alike_pair (Ok a, read, (Ok b, second, (Differs root, differs_there, said))) = absurd (omega (arith, said.0))
  alike_pair (Ok a, jobs p is, (Ok b, jobs q js, (Same, all, said))) =
      let right = first_right input short rest middle a p in
      let other = second_right input short middle b q in
      let pair = comparable_pair input rest middle a b job p q is js in
      record {
        job = job;
        rest = rest;
        judged = judged;
        middle = middle;
        ends = ends;
        first = a;
        denotes_first = p;
        first_of_job = is;
        second = b;
        denotes_second = q;
        second_of_job = js;
        printed = said.1;
        alike = theorem a b right other pair all;
        shows = (second_shows a b job right other pair all, first_shows a b job right other pair all);
        begins = λ shown. (second_begins a b job right other pair all shown, first_begins a b job right other pair all (second_shows a b job right other pair all shown));
      }

pub pair_is_alike : (input text : List ℕ) → DueFor (Some Compare) input 0 text → IsPairAlike input text
pair_is_alike input text (Ok (job, rest), head_within short judged, (middle, ends, due)) = alike_pair input text job rest (head_within short judged) short middle ends due
pair_is_alike input text (Err refusal, judged, said) = absurd (omega (arith, said.0))

-- status 7 names the first root that differs
module _ (input text : List ℕ) (job : Job) (rest : ℕ) (judged : JudgesHead input (Ok (job, rest))) (middle : ℕ) (ends : FirstEnds rest (drop rest input) middle) where
  different_pair : DueOfModules job input rest middle 7 text → IsPairDifferent input text
  different_pair (Err refusal, read, said) = absurd (omega (arith, said.0))
  different_pair (Ok a, read, (Err refusal, second, said)) = absurd (omega (arith, said.0))
  different_pair (Ok a, read, (Ok b, second, (Same, all, said))) = absurd (omega (arith, said.0))
  different_pair (Ok a, jobs p is, (Ok b, jobs q js, (Differs root, first, said))) = record {
    job = job;
    rest = rest;
    judged = judged;
    middle = middle;
    ends = ends;
    first = a;
    denotes_first = p;
    first_of_job = is;
    second = b;
    denotes_second = q;
    second_of_job = js;
    root = root;
    differs = first;
    printed = said.1;
  }

pub pair_is_different : (input text : List ℕ) → DueFor (Some Compare) input 7 text → IsPairDifferent input text
pair_is_different input text (Ok (job, rest), judged, (middle, ends, due)) = different_pair input text job rest judged middle ends due
pair_is_different input text (Err refusal, judged, said) = absurd (omega (arith, said.0))

-- what is true of each accepted pipeline is true of the run that `debug` prints from
printed_script : (Fact : Job → List Inputs → Trace → Type 0) → HoldsOfPipe Fact
    → (input text : List ℕ) (job : Job) (rest : ℕ) → JudgesHead input (Ok (job, rest)) → (found : Result (List Command) Refusal) → script_of job.decls input rest ≡ found
    → DueOfScript job found 0 text → IsDebuggedWith Fact input text
unfolding whole_run
printed_script Fact law input text job rest judged (Ok commands) is said = record {
  job = job;
  rest = rest;
  judged = judged;
  commands = commands;
  script = is;
  printed = said.1;
  holds = law job (inputs_from job 0 all_cycles) (accepted_machine job (head_unbroken input job rest judged));
}
printed_script Fact law input text job rest judged (Err refusal) is said = absurd (omega (arith, said.0))

pub debug_with : (Fact : Job → List Inputs → Trace → Type 0) → HoldsOfPipe Fact
    → (input text : List ℕ) → DueFor (Some Debug) input 0 text → IsDebuggedWith Fact input text
debug_with Fact law input text (Ok (job, rest), judged, said) = printed_script Fact law input text job rest judged (script_of job.decls input rest) refl said
debug_with Fact law input text (Err refusal, judged, said) = absurd (omega (arith, said.0))

-- a netlist that implements the job implements it whatever the name of its module is
pub implements : (net : Net) (job : Job) → Shows net job → BeginsAnew net job → Implements net job
implements net job shows begins = (
  subst (λ (name : List ℕ). Shows (renamed net name) job) shows.name shows,
  subst (λ (name : List ℕ). BeginsAnew (renamed net name) job) shows.name begins,
)

pub pipe_implements : (input text : List ℕ) → DueFor (Some (OnJob Pipe)) input 0 text → IsImplementation input text
pipe_implements input text (Ok job, judged, (zero, verilog)) = record {
  job = job;
  judged = judged;
  net = verilog.net;
  denotes = verilog.denotes;
  implements = implements verilog.net job verilog.shows verilog.anew;
  restarts = restarts_alike verilog.net job (accepted_machine job (judged_unbroken input job judged)) verilog.anew;
}
pipe_implements input text (Err refusal, judged, due) = absurd (omega (arith, due.0))

-- the name of the module doesn't affect what is seen
same_trace_from : (net : Net) (job : Job) (name : List ℕ) (st : State) (ins : List Input) → trace_from job (renamed net name) st ins ≡ trace_from job net st ins
unfolding trace_from value_shown
same_trace_from net job name st ins = λ i. record {
  rows = rows_seen job.stages.value (rows_same net name st ins i);
  visible = λ T t a. value_of net (get_or (states_same net name st ins i) T no_state) (target job t) a;
}

pub same_trace : (net : Net) (job : Job) (name : List ℕ) (ins : List Input) → trace_of job (renamed net name) ins ≡ trace_of job net ins
unfolding trace_of trace_from
same_trace net job name ins = same_trace_from net job name (begin_of net) ins

same_values : (net : Net) (job : Job) (name : List ℕ) (st : State) → value_shown job (renamed net name) st ≡ value_shown job net st
unfolding value_shown
same_values net job name st = refl

as_named : (net : Net) (name : List ℕ) (st : State) → HasMemory net st → HasMemory (renamed net name) st
as_named net name st there = record { count = there.count; sizes = there.sizes; words = there.words }

as_before : (net : Net) (name : List ℕ) (st : State) → HasMemory (renamed net name) st → HasMemory net st
as_before net name st there = record { count = there.count; sizes = there.sizes; words = there.words }

-- what is true of each trace that shows an accepted pipeline is true of all runs of a netlist that implements a job
runs_with : (Fact : Job → (ℕ → ℕ → ℕ) → List Inputs → Trace → Type 0) → HoldsAlike Fact → (net : Net) (job : Job) → Accepted (machine_of job)
    → Implements net job → RunsWith Fact net job
runs_with Fact law net job acc both =
    let name : List ℕ = module_name job in
    record {
      holds = λ ins quiet. law job (state_of job (start_of job)) (inputs_seen job ins) (trace_of job net ins) acc
          (subst (λ (t : Trace). ShowsAlike job t (pipe_of job (inputs_seen job ins))) (same_trace net job name ins) (both.0.runs ins quiet));
      anew = λ st i ins there raised quiet. law job (left_by_reset job (value_shown job net st)) (inputs_seen job ins) (trace_from job net (state_after net i st) ins) acc
          (subst (λ (t : Trace). ShowsAlike job t (pipe (machine_of job) (left_by_reset job (value_shown job net st)) (start_hints job) (inputs_seen job ins)))
          (same_trace_from net job name (state_after net i st) ins)
          (subst (λ (v : ℕ → ℕ → ℕ). ShowsAlike job (trace_from job (renamed net name) (state_after net i st) ins) (pipe (machine_of job) (left_by_reset job v) (start_hints job) (inputs_seen job ins)))
          (same_values net job name st) (both.1.runs st i ins (as_named net name st there) raised quiet)));
      memory = λ ins. as_before net name (last_of net ins) (both.1.memory ins);
    }

pub pair_with : (Fact : Job → (ℕ → ℕ → ℕ) → List Inputs → Trace → Type 0) → HoldsAlike Fact
    → (input text : List ℕ) → DueFor (Some Compare) input 0 text → IsPairWith Fact input text
pair_with Fact law input text due =
    let pair : IsPairAlike input text = pair_is_alike input text due in
    let acc : Accepted (machine_of pair.job) = accepted_machine pair.job (head_unbroken input pair.job pair.rest pair.judged) in
    let first_runs : Implements pair.first pair.job → RunsWith Fact pair.first pair.job = runs_with Fact law pair.first pair.job acc in
    let second_runs : Implements pair.second pair.job → RunsWith Fact pair.second pair.job = runs_with Fact law pair.second pair.job acc in
    record {
      job = pair.job;
      rest = pair.rest;
      judged = pair.judged;
      middle = pair.middle;
      ends = pair.ends;
      first = pair.first;
      denotes_first = pair.denotes_first;
      second = pair.second;
      denotes_second = pair.denotes_second;
      by_first = λ both. (first_runs both, second_runs (pair.shows.0 both.0, (pair.begins both.0).0 both.1));
      by_second = λ both. let shown = pair.shows.1 both.0 in (first_runs (shown, (pair.begins shown).1 both.1), second_runs both);
    }
