-- Which words of a file are printed.
use Rattle.std.specs.Prelude.{ℕ, ◌+◌, ◌≤◌, ◌^◌, ◌<◌, Bool, true, not, ◌==◌, List, length, Option, option_map, All, MatchOption, ⊤}
use Rattle.kp_ast.specs.declared.tree.Job.{Job}
use Rattle.kp_machine.specs.{Slots.targets_of, Words.target}
use Rattle.kp_until.specs.{Parts.IsPart, declared.part.Part.Part}
use Rattle.kp_runner.specs.declared.state.Keep.{Keep, TheVariants.All as Every, TheVariants.NotZero, TheVariants.Changed}

-- a word with this value is kept, which has this one at the start
abbrev pub keeps : Keep → (first value : ℕ) → Bool
keeps Every first value = true
keeps NotZero first value = not (value == 0)
keeps Changed first value = not (value == first)

abbrev pub keep_of : Keep → (ℕ → ℕ) → (ℕ → ℕ) → ℕ → Bool
keep_of keep first values = λ a. keeps keep (first a) (values a)

-- a target of the job, with these words
pub record HasSpan (job : Job) (t from count : ℕ) : Type 0 where
  pub there : t < length (targets_of job.decls)
  pub within : from + count ≤ 2 ^ (target job t).address
  pub few : from + count ≤ 65536
