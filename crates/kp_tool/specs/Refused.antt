-- WHAT A COMMAND REJECTS: the first rule that its input violates.
use Rattle.std.specs.Prelude.{◌≡◌, ◌⊎◌, ◌<◌, ℕ, List, length, Option, Some, None, Ok, Err}
use Rattle.kp_base.specs.declared.refusal.Refusal.{Refusal}
use Rattle.kp_ast.specs.declared.tree.Job.{Job}
use Rattle.kp_words.specs.declared.commands.Command.{Command}
use Rattle.kp_words.specs.declared.commands.Command.TheVariants.{OnJob, Assemble, Read, Watch, Compare, Debug, Generate}
use Rattle.kp_words.specs.declared.commands.JobCommand.{JobCommand, TheVariants.Timing}
use Rattle.kp_frontend.specs.Judging.{Judges, JudgesHead, most_bytes, too_long}
use Rattle.kp_timing.specs.Unfit.{untimed}
use Rattle.kp_debug_script.specs.Scripts.{script_of}
use Rattle.kp_tool.specs.Due.{program_of}

-- The rule that only one command has for a job which violates no other: E38 of `timing`.
abbrev pub own_rule : JobCommand → Job → Option Refusal
own_rule (Timing count) job = untimed job
own_rule command job = None

-- a job that violates the command's own rule, and no other
abbrev pub BreaksOwn : JobCommand → List ℕ → Refusal → Type 0
BreaksOwn command input refusal = (job : Job) × Judges input (Ok job) × (own_rule command job ≡ Some refusal)

-- a job that violates no rule, followed by a script that violates one of E39 to E41
abbrev pub BreaksScript : List ℕ → Refusal → Type 0
BreaksScript input refusal = (job : Job) × (rest : ℕ) × JudgesHead input (Ok (job, rest)) × (script_of job.decls input rest ≡ Err refusal)

-- The first rule of the language that the input of a command violates: a rule of a job and then the command's own, a rule of the job before Verilog
-- texts or a script and then the script's, or a rule of an assembler program. For a Verilog text alone it can only be that of too many bytes; the
-- rules of Verilog have a status of their own. `gen` reads nothing and rejects nothing.
abbrev pub Breaks : Command → List ℕ → Refusal → Type 0
Breaks (OnJob command) input refusal = Judges input (Err refusal) ⊎ BreaksOwn command input refusal
Breaks Assemble input refusal = program_of input ≡ Err refusal
Breaks Read input refusal = (most_bytes < length input) × (refusal ≡ too_long)
Breaks (Watch count) input refusal = JudgesHead input (Err refusal)
Breaks Compare input refusal = JudgesHead input (Err refusal)
Breaks Debug input refusal = JudgesHead input (Err refusal) ⊎ BreaksScript input refusal
Breaks (Generate number count) input refusal = ⊥
