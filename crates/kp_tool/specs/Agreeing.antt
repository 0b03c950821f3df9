-- HOW THE COMMANDS AGREE: what the specified text of one command says about those of others.
use Rattle.std.specs.Prelude.{◌≡◌, ◌≤◌, ◌<◌, ◌^◌, ◌++◌, ℕ, true, List, [], ◌∷◌, length, take, None, Some, Ok}
use Rattle.kp_base.specs.declared.refusal.Refusal.{Refusal}
use Rattle.kp_ast.specs.declared.tree.Job.{Job}
use Rattle.kp_stage.specs.{Counts.summary_of, Start.input as samples_at}
use Rattle.kp_machine.specs.Machine.{machine_of, sequential, values_in}
use Rattle.kp_net.specs.Netlist.{Net}
use Rattle.kp_sched.specs.Runs.{passes}
use Rattle.kp_implements.specs.Shows.{IsOfJob}
use Rattle.kp_equiv.specs.Showing.{ShowsButName}
use Rattle.kp_words.specs.declared.commands.{Command.TheVariants.OnJob, Command.TheVariants.Read, Command.TheVariants.Watch, JobCommand.JobCommand}
use Rattle.kp_words.specs.declared.commands.JobCommand.TheVariants.{Seq, Sim}
use Rattle.kp_frontend.specs.Judging.{Judges, JudgesHead, most_bytes}
use Rattle.kp_watch.specs.Watching.{IsFirstDifference}
use Rattle.kp_vcd.specs.{Dumps.own_run, Dumps.vcd_dump, Reading.verdict}
use Rattle.kp_report.specs.{Texts.accepted_line, States.text_after, Runs.run_text, Runs.counts_behind}
use Rattle.kp_tool.specs.{Due.DueFor, Read.ReadsVerilog, Refused.Breaks, Refused.own_rule, Watched.differing_text}
use Rattle.kp_pipeline.specs.Machine.{State}

-- the state that `seq N` prints: that of the sequential machine after N instructions, of which instruction i has the samples of cycle i
abbrev pub sequential_state : Job → (instructions : ℕ) → State
sequential_state job count = sequential job (λ i. values_in (samples_at job i)) count

-- `sim N` AND `seq P`. After its rows, the text of `sim n` has values, each with `after P`. If the register or file has a result, P is the entry of the
-- line `count` for its write stage. And for a job without samples the value is the one that `seq P` prints for the same input. A shorter run has the first
-- rows of a longer one.
pub record IsSequential (n : ℕ) (input text : List ℕ) : Type 0 where
  pub job : Job
  pub judged : Judges input (Ok job)
  pub counts : (t : ℕ) → (machine_of job).has_result t ≡ true
      → passes job (own_run job n).rows (length (own_run job n).rows) t
      ≡ counts_behind job.stages.value (own_run job n).rows ((machine_of job).write_stage t)
  pub values : (summary_of job).samples ≡ 0
      → text ≡ run_text job (own_run job n).rows (λ t. sequential_state job (passes job (own_run job n).rows (length (own_run job n).rows) t) t)
  pub states : (count : ℕ) (answer : List ℕ) → DueFor (Some (OnJob (Seq count))) input 0 answer
      → answer ≡ text_after count job.decls (sequential_state job count)
  pub shorter : (m : ℕ) → m ≤ n → (own_run job m).rows ≡ take m (own_run job n).rows

-- `check` AND ALL COMMANDS ON A JOB. The input is a job that violates no rule; the only rule by which a command on a job still refuses it is one of its
-- own, E38 of `timing`, and a command without such a rule ends with status 0.
pub record IsChecked (input text : List ℕ) : Type 0 where
  pub job : Job
  pub judged : Judges input (Ok job)
  pub printed : text ≡ accepted_line job.name.name (summary_of job)
  pub own : (command : JobCommand) (refusal : Refusal) → Breaks (OnJob command) input refusal → own_rule command job ≡ Some refusal
  pub zero : (command : JobCommand) (status : ℕ) (answer : List ℕ) → own_rule command job ≡ None
      → DueFor (Some (OnJob command)) input status answer → status ≡ 0

-- A FAULT THAT `watch N` FINDS. The text reports the first difference between the run of the netlist after the job and the sequential machine, and this
-- netlist doesn't implement the job, whatever its module's name.
pub record IsFaulty (n : ℕ) (input text : List ℕ) : Type 0 where
  pub job : Job
  pub rest : ℕ
  pub judged : JudgesHead input (Ok (job, rest))
  pub net : Net
  pub denotes : ReadsVerilog input rest (Ok net)
  pub of_job : IsOfJob net job
  pub cycle : ℕ
  pub target : ℕ
  pub address : ℕ
  pub first : IsFirstDifference job net n cycle target address
  pub printed : text ≡ differing_text n job net cycle target address
  pub fault : ShowsButName net job → ⊥

-- `pipe` AND `read`: of a text that isn't too long, `read` writes the same text.
abbrev pub IsReadBack : List ℕ → List ℕ → Type 0
IsReadBack input text = length text ≤ most_bytes → DueFor (Some Read) text 0 text

-- `pipe`, `sim N` AND `watch N`. After an input that ends with a line feed, the text is a netlist in which `watch n` finds no difference, and `watch n`
-- writes what `sim n` does. (After an `end` without a line feed, the first word of the text would continue this word.)
abbrev pub IsWatched : List ℕ → List ℕ → Type 0
IsWatched input text =
    (front : List ℕ) (n : ℕ) (answer : List ℕ) → input ≡ front ++ 10 ∷ [] → length (input ++ text) ≤ most_bytes
    → DueFor (Some (OnJob (Sim n))) input 0 answer → DueFor (Some (Watch n)) (input ++ text) 0 answer

-- `vcd N` AND A READER OF DUMPS: the text violates no rule of dumps, and is read as the dump of the job's run, as far as a text counts time.
abbrev pub IsReadAsDump : ℕ → List ℕ → List ℕ → Type 0
IsReadAsDump n input text = (job : Job) × Judges input (Ok job) × (n < 2 ^ 64 → verdict text ≡ Ok (vcd_dump n job))
