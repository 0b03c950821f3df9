-- The words of the targets of a job.
use Rattle.std.specs.Prelude.{◌≡◌, ℕ, ◌<◌, ◌^◌, List, [], length, get_or, map}
use Rattle.kp_ast.specs.declared.tree.Job.{Job}
use Rattle.kp_bits.specs.Word.{Word}
use Rattle.kp_machine.specs.{Slots.targets_of, Words.target}
use Rattle.kp_seq.specs.Recorded.{Recorded}
use Rattle.kp_until_run.specs.declared.contents.Words.{Words}

-- the record of a machine that has recorded no instruction
abbrev pub no_record : Recorded
no_record = record { reads = []; writes = []; settings = [] }

abbrev pub numbers_of : List Words → List (List ℕ)
numbers_of targets = map (λ t. map (λ w. w.value) t.words.items) targets

-- the words of target t: one for each address, with its width
pub record FitTarget (job : Job) (t : ℕ) (words : List Word) : Type 0 where
  pub count : length words ≡ 2 ^ (target job t).address
  pub widths : (a : ℕ) (d : Word) → a < 2 ^ (target job t).address → (get_or words a d).width ≡ (target job t).width

pub record FitJob (job : Job) (targets : List Words) : Type 0 where
  pub count : length targets ≡ length (targets_of job.decls)
  pub each : (t : ℕ) (d : Words) → t < length (targets_of job.decls) → FitTarget job t (get_or targets t d).words.items
