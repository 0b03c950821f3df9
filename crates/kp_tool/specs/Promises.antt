-- WHAT IS PROMISED of each command: what its text shows about its input, by the status.
use Rattle.std.specs.Prelude.{◌≡◌, ℕ, List, ⊤}
use Rattle.kp_base.specs.declared.refusal.Refusal.{Refusal}
use Rattle.kp_sched.specs.Runs.{IsLegal}
use Rattle.kp_words.specs.declared.commands.Command.{Command, TheVariants.OnJob, TheVariants.Watch, TheVariants.Compare, TheVariants.Debug, TheVariants.Generate}
use Rattle.kp_words.specs.declared.commands.JobCommand.TheVariants.{Check, Sim, Vcd, Timing, Pipe}
use Rattle.kp_report.specs.Texts.{refusal_line}
use Rattle.kp_tool.specs.Headline.{IsCorrect, IsCorrectFrom, IsVerilogWith, IsRunWith, IsDumpedWith, IsGeneratedWith, IsTimed, IsDebuggedWith, IsNetlistWith, IsPairAlike, IsPairDifferent, IsImplementation, IsPairWith}
use Rattle.kp_tool.specs.Agreeing.{IsSequential, IsChecked, IsFaulty, IsReadBack, IsWatched, IsReadAsDump}
use Rattle.kp_tool.specs.{Refused.Breaks, Misread.Misreads}

-- THE HEADLINE: `pipe`. The text denotes a netlist that implements the job that the input describes, and after a reset depends on the memory alone: the
-- words of the files at that time (`implements`). So from the start on, and again after each reset, in whatever state it is raised, every run of it is
-- correct, with any stalls from outside and any samples (`correct`):
--   legal              each register and each word of a file has the value of the sequential machine after as many instructions as the stage that writes
--                      it has completed;
--   moves              in any n * k cycles without a stall from outside a machine of n stages retires at least k instructions, and the oldest instruction
--                      is never squashed;
--   no_needless_stall  right guesses cost nothing, a wrong one is detected as soon as the value of its register is available, and a stage that isn't stalled
--                      from outside waits only for an operand that isn't available yet, or since the next stage doesn't move.
-- `read` writes the text again (`read_back`), and after an input that ends with a line feed `watch N` finds no difference in it (`watched`), if what they
-- read has at most 16 MiB.
pub record IsPipeline (input text : List ℕ) : Type 0 where
  pub implements : IsImplementation input text
  pub correct : IsVerilogWith IsCorrectFrom input text
  pub read_back : IsReadBack input text
  pub watched : IsWatched input text

-- Status 0. `sim N`, `vcd N`, `debug` and `gen G N` show a correct run of the pipelined machine; the values of `sim N` are those of `seq`, and the dump of
-- `vcd N` is read back. `timing N` prints the timeline of a job, whose rows are those of this machine. After `check` all commands accept the job. `watch N`
-- prints a legal run of the module after the job. The two modules of `equiv` run alike, so if one implements the job, the runs of both are
-- correct. The texts of `seq`, `asm` and `read` are the specified ones, and nothing is promised beside that.
abbrev pub Shows : Command → List ℕ → List ℕ → Type 0
Shows (OnJob Pipe) input text = IsPipeline input text
Shows (OnJob (Sim n)) input text = IsRunWith IsCorrect n input text × IsSequential n input text
Shows (OnJob (Vcd n)) input text = IsDumpedWith IsCorrect n input text × IsReadAsDump n input text
Shows (OnJob (Timing n)) input text = IsTimed n input text
Shows (OnJob Check) input text = IsChecked input text
Shows Debug input text = IsDebuggedWith IsCorrect input text
Shows (Generate number n) input text = IsGeneratedWith IsCorrect number n text
Shows (Watch n) input text = IsNetlistWith IsLegal n input text
Shows Compare input text = IsPairAlike input text × IsPairWith IsCorrectFrom input text
Shows command input text = ⊤

-- Status 7. The module after the job, in which `watch N` finds a difference, doesn't implement the job. `equiv` names the first root of two modules that
-- doesn't agree. No other command ends so.
abbrev pub Differs : Command → List ℕ → List ℕ → Type 0
Differs (Watch n) input text = IsFaulty n input text
Differs Compare input text = IsPairDifferent input text
Differs command input text = ⊥

-- the text is the line of a rule that is violated
abbrev pub Names : (Refusal → Type 0) → List ℕ → Type 0
Names Violates text = (refusal : Refusal) × Violates refusal × (text ≡ refusal_line refusal)

-- The statuses 0, 2, 6 and 7 of a command. 2 and 6 are those of the first rule of the language, or of Verilog, that the input violates, and of nothing else.
-- The others are 1 (the words are no command), 3 and 4 (the source or the sink failed) and 5 (out of memory): the clauses of `tool` say that there are no
-- more, so a job that violates no rule is accepted, unless one of these occurs.
pub record Promises (command : Command) (status : ℕ) (input text : List ℕ) : Type 0 where
  pub shows : status ≡ 0 → Shows command input text
  pub differs : status ≡ 7 → Differs command input text
  pub refused : status ≡ 2 → Names (Breaks command input) text
  pub refused_only : (refusal : Refusal) → Breaks command input refusal → status ≡ 2
  pub misread : status ≡ 6 → Names (Misreads command input) text
  pub misread_only : (refusal : Refusal) → Misreads command input refusal → status ≡ 6
