-- The tables of a layout are those of its job.
use Rattle.std.specs.Prelude.{◌≡◌, ℕ, ◌<◌, ◌≤◌, List, length, get_or, Option, None}
use Rattle.kp_ast.specs.declared.tree.Job.{Job}
use Rattle.kp_machine.specs.{Slots.Slot, Slots.targets_of, Slots.pipes_of, Slots.hints_of, Slots.samples_of, Machine.machine_of}
use Rattle.kp_design.specs.{declared.tables.Declared.Declared, declared.guess.GuessSlot.GuessSlot, declared.layout.Port.Port, declared.layout.Sized.Sized}
use Rattle.kp_design.specs.{declared.layout.Aimed.Aimed, declared.layout.Piped.Piped, Spans.put_after, Spans.last_use}
use Rattle.kp_design.specs.{Numbers.target_at, Numbers.pipe_at, Numbers.hint_at, Numbers.sample_at, Numbers.guesses_of, Fits.port_at, Fits.Fits}

-- the default for an entry that doesn't exist
abbrev pub no_size : Sized
no_size = record { width = 0; address = 0 }

abbrev pub no_aim : Aimed
no_aim = record { width = 0; stage = 0 }

abbrev pub no_piped : Piped
no_piped = record { width = 0; from = 0; to = 0 }

-- a pipe with the stages that store it
abbrev pub piped_of : Job → Slot → Piped
piped_of job s = record { width = s.width; from = put_after s.name 0 job.blocks; to = last_use job s.name }

-- the vectors of a layout
pub record Vectors : Type 0 where
  pub all : Declared
  pub ports : List (Option Port)
  pub guesses : List GuessSlot

pub record IsLaid (job : Job) (v : Vectors) : Type 0 where
  pub fits : Fits job
  pub target_count : length v.all.targets.items ≡ length (targets_of job.decls)
  pub few_targets : length v.all.targets.items ≤ 16777216
  pub width : (t : ℕ) → t < length v.all.targets.items → (get_or v.all.targets.items t no_size).width ≡ (target_at job t).width
  pub address : (t : ℕ) → t < length v.all.targets.items → (get_or v.all.targets.items t no_size).address ≡ (target_at job t).address
  pub port_count : length v.ports ≡ length (targets_of job.decls)
  pub port : (t : ℕ) → t < length v.ports → get_or v.ports t None ≡ port_at job t
  pub pipe_count : length v.all.pipes.items ≡ length (pipes_of job.decls)
  pub few_pipes : length v.all.pipes.items ≤ 16777216
  pub pipe : (x : ℕ) → x < length v.all.pipes.items → get_or v.all.pipes.items x no_piped ≡ piped_of job (pipe_at job x)
  pub hint_count : length v.all.hints.items ≡ length (hints_of job.decls)
  pub few_hints : length v.all.hints.items ≤ 16777216
  pub hint : (h : ℕ) → h < length v.all.hints.items → (get_or v.all.hints.items h no_aim).width ≡ (hint_at job h).width
  pub aim : (h : ℕ) → h < length v.all.hints.items → (get_or v.all.hints.items h no_aim).stage ≡ (machine_of job).hint_stage h
  pub sample_count : length v.all.samples.items ≡ length (samples_of job.decls)
  pub few_samples : length v.all.samples.items ≤ 16777216
  pub sample : (x : ℕ) → x < length v.all.samples.items → get_or v.all.samples.items x 0 ≡ (sample_at job x).width
  pub guesses : v.guesses ≡ guesses_of job
