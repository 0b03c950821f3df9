-- What the commands on a job show of the text of a processor.
use Rattle.std.proofs.Common.{◌≡◌, ℕ, List, None, Some, Ok}
use Rattle.kp_ast.specs.declared.tree.Job.{Job}
use Rattle.kp_lex.specs.declared.token.Lexed.{Lexed}
use Rattle.kp_pipeline.specs.{Pipeline.Inputs, Rows.Trace}
use Rattle.kp_net.specs.Netlist.{state_after}
use Rattle.kp_sched.specs.Runs.{IsLegal, due_value}
use Rattle.kp_implements.specs.{Naming.value_shown, Traces.trace_of, Anew.trace_from, Anew.left_by_reset, Legal.IsLegalFrom, Legal.value_from}
use Rattle.kp_frontend.specs.Judging.{Judges, JudgesHead, IsSentenceOf, broken_in, Judges.within, JudgesText.accepted as no_rule_broken, JudgesHeadText.head_accepted}
use Rattle.kp_frontend.specs.Judging.JudgesHead.{head_within}
use Rattle.kp_words.specs.declared.commands.Command.TheVariants.{OnJob, Watch, Debug}
use Rattle.kp_words.specs.declared.commands.JobCommand.TheVariants.{Sim, Vcd, Pipe}
use Rattle.kp_described.specs.Sections.{IsWith, HasSections}
use Rattle.kp_isa.specs.Runs.{start_state, Fits, Retires, IsProcessor}
use Rattle.kp_isa.proofs.Memory.{starts_fit, reset_fits}
use Rattle.kp_tool.specs.{Due.DueFor, Executing.ExecutesAs, Headline.IsCorrect, Headline.IsCorrectFrom, Headline.IsVerilogWith, Headline.IsRunWith, Headline.IsDumpedWith, Headline.IsDebuggedWith, Headline.IsNetlistWith}
use Rattle.kp_tool.proofs.Headline.{judged_unbroken, head_unbroken, correct_pipe, correct_alike, sim_with, vcd_with, debug_with, pipe_with, watch_is_legal}

from_start : (job : Job) (ins : List Inputs) (trace : Trace) → IsLegal job ins trace → IsLegalFrom job (start_state job) ins trace
unfolding due_value value_from
from_start job ins trace legal = legal

sentence_of : (input : List ℕ) (job : Job) → Judges input (Ok job) → (lexed : Lexed) × IsSentenceOf input lexed job
sentence_of input job (within short (no_rule_broken describes none)) = (describes.lexed, describes.sentence)

pub head_sentence : (input : List ℕ) (job : Job) (rest : ℕ) → JudgesHead input (Ok (job, rest)) → (lexed : Lexed) × IsSentenceOf input lexed job
head_sentence input job rest (head_within short (head_accepted {lexed = lexed} sentence none)) = (lexed, sentence)

module _ (head : List ℕ) (base : Job) (Ready : (ℕ → ℕ → ℕ) → Type 0) (Follows : (ℕ → ℕ → ℕ) → Trace → Type 0) (p : IsProcessor head base Ready Follows)
    (input text : List ℕ) (is : IsWith head input) where
  -- the facts of a run, from values of registers and files on, and from the start on
  abbrev RunsFrom : Job → (ℕ → ℕ → ℕ) → List Inputs → Trace → Type 0
  RunsFrom job s ins trace = (Ready s → Follows s trace) × Retires base.stages.value ins trace

  abbrev Runs : Job → List Inputs → Trace → Type 0
  Runs job ins trace = RunsFrom job (start_state job) ins trace

  judged_is : (job : Job) → Judges input (Ok job) → HasSections base job
  judged_is job judged = let s = sentence_of input job judged in p.text input s.0 job is s.1

  head_is : (job : Job) (rest : ℕ) → JudgesHead input (Ok (job, rest)) → HasSections base job
  head_is job rest judged = let s = head_sentence input job rest judged in p.text input s.0 job is s.1

  shows_start : (job : Job) (ins : List Inputs) (trace : Trace) → HasSections base job → broken_in job ≡ None → IsLegal job ins trace → Ready (start_state job) → Follows (start_state job) trace
  shows_start job ins trace has none legal ready = p.runs job (start_state job) ins trace has (starts_fit job none) (from_start job ins trace legal) ready

  runs_from : (job : Job) (s : ℕ → ℕ → ℕ) (ins : List Inputs) (trace : Trace) → HasSections base job → Fits job s → IsCorrectFrom job s ins trace → RunsFrom job s ins trace
  runs_from job s ins trace has fits b = (p.runs job s ins trace has fits b.legal, p.retires job ins trace has b.moves.0)

  runs_start : (job : Job) (ins : List Inputs) (trace : Trace) → HasSections base job → broken_in job ≡ None → IsCorrect job ins trace → Runs job ins trace
  runs_start job ins trace has none b = (shows_start job ins trace has none b.legal, p.retires job ins trace has b.moves.0)

  pub pipe_is : DueFor (Some (OnJob Pipe)) input 0 text → IsVerilogWith RunsFrom input text
  pipe_is due =
      let v = pipe_with IsCorrectFrom correct_alike input text due in
      let has = judged_is v.job v.judged in
      let none = judged_unbroken input v.job v.judged in
      record {
        job = v.job;
        judged = v.judged;
        net = v.net;
        denotes = v.denotes;
        of_job = v.of_job;
        outputs = v.outputs;
        runs = record {
          holds = λ ins quiet. runs_from v.job (start_state v.job) _ (trace_of v.job v.net ins) has (starts_fit v.job none) (v.runs.holds ins quiet);
          anew = λ st i ins there raised quiet.
              runs_from v.job (left_by_reset v.job (value_shown v.job v.net st)) _ (trace_from v.job v.net (state_after v.net i st) ins) has
              (reset_fits v.job none v.net st v.of_job there) (v.runs.anew st i ins there raised quiet);
          memory = v.runs.memory;
        };
      }

  pub sim_is : (n : ℕ) → DueFor (Some (OnJob (Sim n))) input 0 text → IsRunWith Runs n input text
  sim_is n due =
      let r = sim_with IsCorrect correct_pipe n input text due in
      record {
        job = r.job;
        judged = r.judged;
        printed = r.printed;
        cycles = r.cycles;
        holds = runs_start r.job _ _ (judged_is r.job r.judged) (judged_unbroken input r.job r.judged) r.holds;
      }

  pub vcd_is : (n : ℕ) → DueFor (Some (OnJob (Vcd n))) input 0 text → IsDumpedWith Runs n input text
  vcd_is n due =
      let r = vcd_with IsCorrect correct_pipe n input text due in
      record {
        job = r.job;
        judged = r.judged;
        printed = r.printed;
        cycles = r.cycles;
        values = r.values;
        changes = r.changes;
        holds = runs_start r.job _ _ (judged_is r.job r.judged) (judged_unbroken input r.job r.judged) r.holds;
      }

  pub debug_is : DueFor (Some Debug) input 0 text → IsDebuggedWith Runs input text
  debug_is due =
      let r = debug_with IsCorrect correct_pipe input text due in
      record {
        job = r.job;
        rest = r.rest;
        judged = r.judged;
        commands = r.commands;
        script = r.script;
        printed = r.printed;
        holds = runs_start r.job _ _ (head_is r.job r.rest r.judged) (head_unbroken input r.job r.rest r.judged) r.holds;
      }

  pub watch_is : (n : ℕ) → DueFor (Some (Watch n)) input 0 text → IsNetlistWith (λ job ins trace. Ready (start_state job) → Follows (start_state job) trace) n input text
  watch_is n due =
      let r = watch_is_legal n input text due in
      record {
        job = r.job;
        rest = r.rest;
        judged = r.judged;
        net = r.net;
        denotes = r.denotes;
        of_job = r.of_job;
        printed = r.printed;
        holds = shows_start r.job _ _ (head_is r.job r.rest r.judged) (head_unbroken input r.job r.rest r.judged) r.holds;
      }

-- all of them
pub executes_as : (head : List ℕ) (base : Job) (Ready : (ℕ → ℕ → ℕ) → Type 0) (Follows : (ℕ → ℕ → ℕ) → Trace → Type 0) → IsProcessor head base Ready Follows
    → ExecutesAs (λ job s ins trace. (Ready s → Follows s trace) × Retires base.stages.value ins trace)
    (λ job ins trace. (Ready (start_state job) → Follows (start_state job) trace) × Retires base.stages.value ins trace) (λ job ins trace. Ready (start_state job) → Follows (start_state job) trace)
    head
executes_as head base Ready Follows p = record {
  pipe = λ input text is. pipe_is head base Ready Follows p input text is;
  sim = λ n input text is. sim_is head base Ready Follows p input text is n;
  vcd = λ n input text is. vcd_is head base Ready Follows p input text is n;
  debug = λ input text is. debug_is head base Ready Follows p input text is;
  watch = λ n input text is. watch_is head base Ready Follows p input text is n;
}
