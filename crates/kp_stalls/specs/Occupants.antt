-- WHAT THE STAGES SHOW in a cycle, each with what the sequential machine reports of the instruction in it.
use Rattle.std.specs.Prelude.{ℕ, ◌%◌, List, [], false, nat_lt, if◌then◌else◌, length, get_or, map}
use Rattle.kp_bits.specs.Word.{Word, word}
use Rattle.kp_ast.specs.declared.tree.Job.{Job}
use Rattle.kp_machine.specs.{Machine.sequential, Slots.targets_of, Words.target}
use Rattle.kp_seq.specs.Recorded.{Recorded, record_of}
use Rattle.kp_stalls.specs.declared.{occupants.Stage.Stage, fate.Fate.TheVariants.Open}
use Rattle.kp_sites.specs.{declared.sites.Site.Site, Sites.sited, Reports.nothing_recorded}
use Rattle.kp_pipeline.specs.Machine.{Samples, State}

-- What the sequential machine reports of an instruction, and for each read the value that its target had before the instruction at address 0.
pub record Report : Type 0 where
  pub recorded : Recorded
  pub values : List Word

abbrev pub nothing : Report
nothing = record { recorded = nothing_recorded; values = [] }

-- the value of a read of a target that doesn't exist
abbrev pub no_value : Word
no_value = word 1 0

abbrev pub value_before : Job → State → Site → Word
value_before job s site =
    if nat_lt site.target (length (targets_of job.decls)) then word (target job site.target).width (s site.target 0) else no_value

-- of the instruction on the state s with the sample values q
abbrev pub report_of : Job → State → (ℕ → ℕ) → Report
report_of job s q = record { recorded = record_of job s q; values = map (value_before job s) (sited job).reads }

-- of instruction i of the run in which instruction j has the sample values `given j`
abbrev pub report : Job → Samples → ℕ → Report
report job given i = report_of job (sequential job given i) (given i)

pub record Seen : Type 0 where
  pub stage : Stage
  pub report : Report

abbrev pub no_stage : Stage
no_stage = record { full = false; moves = false; squashed = false; held = false; fate = Open; settled = false; number = 0 }

abbrev pub no_occupant : Seen
no_occupant = record { stage = no_stage; report = nothing }

-- stage j; past the last one there is no occupant
abbrev pub at : List Seen → ℕ → Seen
at occupants j = get_or occupants j no_occupant

-- THE OCCUPANTS of the stages in a cycle: their instructions.
abbrev pub occupants_of : (ℕ → Report) → List Stage → List Seen
occupants_of reports stages = map (λ (s : Stage). record { stage = s; report = reports s.number }) stages

-- where the last sixteen instructions are stored, each under its number modulo 16
abbrev pub stored : List Report → ℕ → Report
stored ring i = get_or ring (i % 16) nothing
