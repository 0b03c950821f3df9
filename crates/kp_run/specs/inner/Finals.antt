-- The stored words of the targets of a job.
use Rattle.std.specs.Prelude.{◌≡◌, ℕ, ◌<◌, List, [], length, get_or}
use Rattle.kp_bits.specs.Word.{Word, word}
use Rattle.kp_ast.specs.declared.tree.Job.{Job}
use Rattle.kp_machine.specs.{Slots.targets_of, Words.HasWord, Words.target}
use Rattle.kp_pipeline.specs.Machine.{State}

-- a word for each address of a target, with these values
pub record AreWords (job : Job) (t : ℕ) (shown : ℕ → ℕ) (words : List Word) : Type 0 where
  pub there : (a : ℕ) → HasWord job t a → a < length words
  pub values : (a : ℕ) → HasWord job t a → get_or words a (word 0 0) ≡ word (target job t).width (shown a)

-- and so for all targets
pub record AreFinals (job : Job) (shown : State) (finals : List (List Word)) : Type 0 where
  pub there : (t : ℕ) → t < length (targets_of job.decls) → t < length finals
  pub words : (t : ℕ) → t < length (targets_of job.decls) → AreWords job t (shown t) (get_or finals t [])
