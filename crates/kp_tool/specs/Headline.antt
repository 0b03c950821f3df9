-- THE HEADLINE: what the specified texts of `pipe`, of `sim N`, of `vcd N`, of `gen G N`, of `timing N`, of `debug`, of `watch N` and of `equiv` show
-- about a job that violates no rule. Each fact but the last is about a run: its inputs, cycle by cycle, and the rows and values that are seen in it.
-- That each register and each word of a file has the value of the sequential machine after as many instructions as its write stage has completed is
-- `IsLegal` of kp_sched.
use Rattle.std.specs.Prelude.{◌≡◌, ◌↔◌, ◌-◌, ◌≤◌, ℕ, Bool, true, List, length, get_or, take, drop, sum_by, None, Some, Ok}
use Rattle.kp_bits.specs.Word.{Word}
use Rattle.kp_ast.specs.declared.tree.Job.{Job}
use Rattle.kp_stage.specs.{Counts.summary_of, Start.start_of}
use Rattle.kp_pipeline.specs.Machine.{State as MachineState}
use Rattle.kp_pipeline.specs.{Claims.Moves, Claims.HighestStays, Pipeline.Inputs, Pipeline.pipeline_start, Rows.Row, Rows.Trace, Rows.rows_from, Rows.taken}
use Rattle.kp_diagram.specs.Diagram.{account}
use Rattle.kp_pipeline.specs.Timeline.{no_samples, start_hold, timeline_rows}
use Rattle.kp_pipeline.specs.SpeculativeTimeline.{timeline_rows as path_rows, timeline_rows_taking}
use Rattle.kp_pipeline.specs.RightPath.{NoWrongGuess, WaitsOnlyWhereItMust, first_moment}
use Rattle.kp_machine.specs.Machine.{machine_of, state_of, start_hints, pipe_of, inputs_from}
use Rattle.kp_net.specs.Netlist.{Net, Input, State, state_after, last_of}
use Rattle.kp_sched.specs.Runs.{due_value, IsLegal}
use Rattle.kp_implements.specs.{Naming.module_name, Naming.value_shown, Traces.trace_of, Traces.inputs_seen, Traces.AreQuiet, Shows.IsOfJob, Shows.HasOutputs}
use Rattle.kp_implements.specs.Legal.{IsLegalFrom}
use Rattle.kp_implements.specs.Anew.{trace_from, left_by_reset, HasMemory, BeginsAnew}
use Rattle.kp_vlog.specs.{Denote.Denotes, Splitting.FirstEnds}
use Rattle.kp_equiv.specs.{declared.verdict.Verdict.TheVariants.Same, declared.verdict.Verdict.TheVariants.Differs, Agreement.IsFirstDifference, Runs.RunAlike, Showing.renamed, Showing.ShowsButName, Texts.verdict_line}
use Rattle.kp_frontend.specs.Judging.{Judges, JudgesHead, broken_in}
use Rattle.kp_debug_script.specs.{declared.command.Command.Command, Scripts.script_of}
use Rattle.kp_debug.specs.Inspecting.{all_cycles, printed}
use Rattle.kp_run.specs.Cycles.{own_trace}
use Rattle.kp_report.specs.{Runs.run_text, Line.totals_of, Line.totals_line}
use Rattle.kp_gen.specs.Generated.{gen_job}
use Rattle.kp_vcd.specs.{Held.held, Held.Changes, Dumps.own_run, Dumps.values_at, Dumps.vcd_dump, Dumps.vcd_text}
use Rattle.kp_timing.specs.Lines.{timing_text}
use Rattle.kp_tool.specs.{Bypassed.IsBypassed, Bypassed.NeverWaits, Read.ReadsVerilog, Watched.own_text, Retiring.IsInTime, Restarting.RestartsAlike}

-- MOVING: in a cycle in which no stage is stalled from outside the highest full stage updates, and any n stall-free cycles of a machine of n
-- stages retire an instruction. The highest full stage is never squashed. In any n * k cycles, and as many more as are stalled from outside, k
-- instructions retire; and one that isn't squashed leaves after n cycles for each older one in flight and n for itself, and the stalled ones.
abbrev pub IsMoving : Job → List Inputs → Trace → Type 0
IsMoving job ins trace =
    Moves (machine_of job) ins trace × HighestStays (machine_of job).stages trace.rows × IsInTime (machine_of job).stages ins trace.rows

-- NO NEEDLESS STALL. In each cycle of the run, the stages of the right path (no guess is wrong in the stage or above it) move on, wait and stall
-- exactly as in the timeline, in which a guessed read never waits, and a stage waits only if the values of the sequential machine itself show that an
-- operand isn't available yet. A wrong guess is detected in the first cycle in which it can be (`waits`). As long as no wrong guess is made, the rows
-- are those of the timeline (`right`); so they always are if the job has no guesses, and then each sample value is recorded in the cycle in which it
-- is read (`plain`). If it has no samples either, they are those of the timeline that is computed from instruction numbers and values of the sequential
-- machine alone (`timeline`). Whatever is guessed, they are the rows of the pipelined machine: `full`, `ue` and `back` of each cycle (`rows`). Where the table
-- of `kpview paths` has only `bypass` for the reads without a guess, no stage waits for data (`bypassed`). Wrong guesses cost no more cycles than the rollbacks
-- squash stages (`lost`). `From`: from a state s of registers and files, with the start values of the hints; otherwise from the job's start.
pub record HasNoNeedlessStallFrom (job : Job) (s : MachineState) (ins : List Inputs) (trace : Trace) : Type 0 where
  pub waits : WaitsOnlyWhereItMust (machine_of job) s (taken (machine_of job) ins trace.rows) (first_moment s (start_hints job)) ins trace.rows
  pub right : NoWrongGuess (machine_of job) s (taken (machine_of job) ins trace.rows) (start_hints job) start_hold ins
      → trace.rows ≡ path_rows (machine_of job) s (taken (machine_of job) ins trace.rows) start_hold ins
  pub plain : (summary_of job).guesses ≡ 0 → trace.rows ≡ timeline_rows_taking (machine_of job) s no_samples start_hold ins
  pub timeline : (summary_of job).guesses ≡ 0 → (summary_of job).samples ≡ 0 → trace.rows ≡ timeline_rows (machine_of job) s start_hold ins
  pub rows : trace.rows ≡ rows_from (machine_of job) (pipeline_start s (start_hints job)) ins
  pub bypassed : IsBypassed job → NeverWaits job
  pub lost : (ext : ℕ → ℕ → Bool) → (account (job.stages.value - 1) ext trace.rows).guesses ≤ sum_by (λ (r : Row). r.back) trace.rows

abbrev pub HasNoNeedlessStall : Job → List Inputs → Trace → Type 0
HasNoNeedlessStall job ins trace = HasNoNeedlessStallFrom job (state_of job (start_of job)) ins trace

-- A CORRECT RUN is legal, moves, and has no needless stall. `From`: from a state s of registers and files; otherwise from the job's start.
pub record IsCorrectFrom (job : Job) (s : MachineState) (ins : List Inputs) (trace : Trace) : Type 0 where
  pub legal : IsLegalFrom job s ins trace
  pub moves : IsMoving job ins trace
  pub no_needless_stall : HasNoNeedlessStallFrom job s ins trace

pub record IsCorrect (job : Job) (ins : List Inputs) (trace : Trace) : Type 0 where
  pub legal : IsLegal job ins trace
  pub moves : IsMoving job ins trace
  pub no_needless_stall : HasNoNeedlessStall job ins trace

-- The fact holds of each run of the netlist from its start on, whatever comes in, until the reset is raised. And in WHATEVER state the reset is raised, at
-- power-up or in a run, the machine begins anew, over the memory at that time, and the fact holds from there on, until the reset is raised again.
-- The only claim on that state is that its files have words of their widths, as each state of a run has.
pub record RunsWith (Fact : Job → MachineState → List Inputs → Trace → Type 0) (net : Net) (job : Job) : Type 0 where
  pub holds : (ins : List Input) → AreQuiet ins → Fact job (state_of job (start_of job)) (inputs_seen job ins) (trace_of job net ins)
  pub anew : (st : State) (i : Input) (ins : List Input) → HasMemory net st → i.reset ≡ true → AreQuiet ins
      → Fact job (left_by_reset job (value_shown job net st)) (inputs_seen job ins) (trace_from job net (state_after net i st) ins)
  pub memory : (ins : List Input) → HasMemory net (last_of net ins)

-- The text denotes a netlist of the job: it has the job's ports, registers and files, and outputs of their widths. The fact holds of all its runs.
pub record IsVerilogWith (Fact : Job → MachineState → List Inputs → Trace → Type 0) (input text : List ℕ) : Type 0 where
  pub job : Job
  pub judged : Judges input (Ok job)
  pub net : Net
  pub denotes : Denotes 0 text net
  pub of_job : IsOfJob net job
  pub outputs : HasOutputs net
  pub runs : RunsWith Fact net job

-- The text prints the run of the pipelined machine of the input's job over n cycles of the job's own stall words and samples: its rows, followed by
-- the values of the sequential machine. The fact holds of this run.
pub record IsRunWith (Fact : Job → List Inputs → Trace → Type 0) (n : ℕ) (input text : List ℕ) : Type 0 where
  pub job : Job
  pub judged : Judges input (Ok job)
  pub printed : text ≡ run_text job (pipe_of job (inputs_from job 0 n)).rows
      (λ t a. due_value job (inputs_from job 0 n) (pipe_of job (inputs_from job 0 n)).rows n t a)
  pub cycles : length (pipe_of job (inputs_from job 0 n)).rows ≡ n
  pub holds : Fact job (inputs_from job 0 n) (pipe_of job (inputs_from job 0 n))

-- The text is the value change dump of the run of the pipelined machine of the input's job over n cycles of the job's own stall words and samples. In
-- this dump each signal has at each time the value of the run at that time, and each change is to another value. The fact holds of this run.
pub record IsDumpedWith (Fact : Job → List Inputs → Trace → Type 0) (n : ℕ) (input text : List ℕ) : Type 0 where
  pub job : Job
  pub judged : Judges input (Ok job)
  pub printed : text ≡ vcd_text n job
  pub cycles : length (own_run job n).rows ≡ n
  pub values : (T s : ℕ) (w : Word) → T ≤ n → get_or (values_at job (own_run job n) T) s None ≡ Some w → held (vcd_dump n job) s T ≡ Some w
  pub changes : Changes (vcd_dump n job)
  pub holds : Fact job (inputs_from job 0 n) (own_run job n)

-- The text is the line of the generated job of a number: the size of its machine, and the totals of the run of its pipelined machine over n cycles of
-- its own stall words. The job violates no rule, and the fact holds of this run.
pub record IsGeneratedWith (Fact : Job → List Inputs → Trace → Type 0) (number n : ℕ) (text : List ℕ) : Type 0 where
  pub job : Job
  pub generated : job ≡ gen_job number
  pub accepted : broken_in job ≡ None
  pub printed : text ≡ totals_line number (totals_of job (own_run job n).rows (due_value job (inputs_from job 0 n) (own_run job n).rows n))
  pub cycles : length (own_run job n).rows ≡ n
  pub holds : Fact job (inputs_from job 0 n) (own_run job n)

-- The text is the timeline of the input's job over n cycles of the job's own stall words: for each cycle, the instructions in the stages, the stages
-- that wait for data, and the stages that move their instruction on. The job has no guesses and no samples, and the rows of its pipelined machine in
-- these cycles are those of the timeline: full where a stage contains an instruction, with the update enable where it moves it on.
pub record IsTimed (n : ℕ) (input text : List ℕ) : Type 0 where
  pub job : Job
  pub judged : Judges input (Ok job)
  pub guesses : (summary_of job).guesses ≡ 0
  pub samples : (summary_of job).samples ≡ 0
  pub printed : text ≡ timing_text job n
  pub rows : (pipe_of job (inputs_from job 0 n)).rows ≡ timeline_rows (machine_of job) (state_of job (start_of job)) start_hold (inputs_from job 0 n)

-- The text prints what the script after a job asks about the run of its pipelined machine over all cycles of the debugger, under the job's own stall
-- words and samples: rows of this run, and the values of registers and files in it. The fact holds of this run.
pub record IsDebuggedWith (Fact : Job → List Inputs → Trace → Type 0) (input text : List ℕ) : Type 0 where
  pub job : Job
  pub rest : ℕ
  pub judged : JudgesHead input (Ok (job, rest))
  pub commands : List Command
  pub script : script_of job.decls input rest ≡ Ok commands
  pub printed : text ≡ printed job (pipe_of job (inputs_from job 0 all_cycles)) 0 commands
  pub holds : Fact job (inputs_from job 0 all_cycles) (pipe_of job (inputs_from job 0 all_cycles))

-- The text prints the run of the netlist that the Verilog after a job denotes, over n cycles of the job's own stall words and samples. The netlist is
-- one of the job, whoever made it, and the fact holds of this run of it.
pub record IsNetlistWith (Fact : Job → List Inputs → Trace → Type 0) (n : ℕ) (input text : List ℕ) : Type 0 where
  pub job : Job
  pub rest : ℕ
  pub judged : JudgesHead input (Ok (job, rest))
  pub net : Net
  pub denotes : ReadsVerilog input rest (Ok net)
  pub of_job : IsOfJob net job
  pub printed : text ≡ own_text n job net
  pub holds : Fact job (inputs_from job 0 n) (own_trace job net n)

-- The two texts after a job denote netlists of the job that run alike: for every list of inputs they have the same rows, and the same values of all
-- registers and file words, by name. So if one of them implements the job up to its module's name, so does the other; and if one also restarts
-- correctly after each reset, so does the other.
pub record IsPairAlike (input text : List ℕ) : Type 0 where
  pub job : Job
  pub rest : ℕ
  pub judged : JudgesHead input (Ok (job, rest))
  pub middle : ℕ
  pub ends : FirstEnds rest (drop rest input) middle
  pub first : Net
  pub denotes_first : ReadsVerilog (take middle input) rest (Ok first)
  pub first_of_job : IsOfJob first job
  pub second : Net
  pub denotes_second : ReadsVerilog input middle (Ok second)
  pub second_of_job : IsOfJob second job
  pub printed : text ≡ verdict_line first second Same
  pub alike : RunAlike first second
  pub shows : ShowsButName first job ↔ ShowsButName second job
  pub begins : ShowsButName first job → BeginsAnew (renamed first (module_name job)) job ↔ BeginsAnew (renamed second (module_name job)) job

-- The two texts after a job denote netlists of the job, and the root that the text names is the first one at which they don't agree: all roots before it agree.
pub record IsPairDifferent (input text : List ℕ) : Type 0 where
  pub job : Job
  pub rest : ℕ
  pub judged : JudgesHead input (Ok (job, rest))
  pub middle : ℕ
  pub ends : FirstEnds rest (drop rest input) middle
  pub first : Net
  pub denotes_first : ReadsVerilog (take middle input) rest (Ok first)
  pub first_of_job : IsOfJob first job
  pub second : Net
  pub denotes_second : ReadsVerilog input middle (Ok second)
  pub second_of_job : IsOfJob second job
  pub root : ℕ
  pub differs : IsFirstDifference first second root
  pub printed : text ≡ verdict_line first second (Differs root)

-- The netlist implements the machine of the job up to the name of its module, and restarts correctly after each reset.
abbrev pub Implements : Net → Job → Type 0
Implements net job = ShowsButName net job × BeginsAnew (renamed net (module_name job)) job

-- The text denotes a netlist that implements the input's job. Runs of it from two resets on differ in nothing but what the two memories decide.
pub record IsImplementation (input text : List ℕ) : Type 0 where
  pub job : Job
  pub judged : Judges input (Ok job)
  pub net : Net
  pub denotes : Denotes 0 text net
  pub implements : Implements net job
  pub restarts : RestartsAlike net job

-- The two texts after a job denote netlists of the job, and if one of the two implements the job, as the text of `pipe` does, then the fact holds of
-- all runs of both.
pub record IsPairWith (Fact : Job → MachineState → List Inputs → Trace → Type 0) (input text : List ℕ) : Type 0 where
  pub job : Job
  pub rest : ℕ
  pub judged : JudgesHead input (Ok (job, rest))
  pub middle : ℕ
  pub ends : FirstEnds rest (drop rest input) middle
  pub first : Net
  pub denotes_first : ReadsVerilog (take middle input) rest (Ok first)
  pub second : Net
  pub denotes_second : ReadsVerilog input middle (Ok second)
  pub by_first : Implements first job → RunsWith Fact first job × RunsWith Fact second job
  pub by_second : Implements second job → RunsWith Fact first job × RunsWith Fact second job
