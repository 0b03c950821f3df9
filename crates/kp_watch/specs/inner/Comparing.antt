-- Two states of a job, word by word.
use Rattle.std.specs.Prelude.{◌≡◌, ◌≢◌, ℕ, ◌<◌, ◌⊎◌, nat_lt, if◌then◌else◌, Option, Some, None, MatchOption}
use Rattle.kp_bits.specs.Word.{word}
use Rattle.kp_ast.specs.declared.tree.Job.{Job}
use Rattle.kp_machine.specs.Words.{HasWord, target}
use Rattle.kp_run.specs.declared.difference.Difference.{Difference}
use Rattle.kp_pipeline.specs.Machine.{State}

-- An address of a target at which two states differ.
pub record IsOneAt (job : Job) (shown owed : ℕ → ℕ) (cycle t : ℕ) (d : Difference) : Type 0 where
  pub cycle_is : d.cycle ≡ cycle
  pub target_is : d.target ≡ t
  pub there : HasWord job t d.address
  pub differs : shown d.address ≢ owed d.address
  pub found_is : d.found ≡ word (target job t).width (shown d.address)
  pub due_is : d.due ≡ word (target job t).width (owed d.address)

-- The first such address.
pub record IsFirstAt (job : Job) (shown owed : ℕ → ℕ) (cycle t : ℕ) (d : Difference) : Type 0 where
  pub one : IsOneAt job shown owed cycle t d
  pub before : (b : ℕ) → b < d.address → HasWord job t b → shown b ≡ owed b

-- Whether they differ at this address, if there is one and the target has it.
abbrev pub ComparesWord : Job → (shown owed : ℕ → ℕ) → (cycle t : ℕ) → Option ℕ → Option Difference → Type 0
ComparesWord job shown owed cycle t address result =
    MatchOption result ((a : ℕ) → HasWord job t a → address ≡ Some a → shown a ≡ owed a) (λ d. IsOneAt job shown owed cycle t d × (address ≡ Some d.address))

-- The one with the lower address.
abbrev pub lower : Option Difference → Option Difference → Option Difference
lower None other = other
lower (Some d) None = Some d
lower (Some d) (Some e) = if nat_lt e.address d.address then Some e else Some d

abbrev pub ComparesTarget : Job → (shown owed : ℕ → ℕ) → (cycle t : ℕ) → Option Difference → Type 0
ComparesTarget job shown owed cycle t result =
    MatchOption result ((a : ℕ) → HasWord job t a → shown a ≡ owed a) (IsFirstAt job shown owed cycle t)

-- Both agree in all words of the targets before t.
abbrev pub AgreeBelow : Job → (shown owed : State) → ℕ → Type 0
AgreeBelow job shown owed t = (s b : ℕ) → s < t → HasWord job s b → shown s b ≡ owed s b

-- The first word, by target and address, in which two states differ.
pub record IsFirstIn (job : Job) (shown owed : State) (cycle : ℕ) (d : Difference) : Type 0 where
  pub cycle_is : d.cycle ≡ cycle
  pub there : HasWord job d.target d.address
  pub differs : shown d.target d.address ≢ owed d.target d.address
  pub before : (s b : ℕ) → HasWord job s b → (s < d.target) ⊎ ((s ≡ d.target) × (b < d.address)) → shown s b ≡ owed s b
  pub found_is : d.found ≡ word (target job d.target).width (shown d.target d.address)
  pub due_is : d.due ≡ word (target job d.target).width (owed d.target d.address)

abbrev pub Compares : Job → (shown owed : State) → ℕ → Option Difference → Type 0
Compares job shown owed cycle result =
    MatchOption result ((t a : ℕ) → HasWord job t a → shown t a ≡ owed t a) (IsFirstIn job shown owed cycle)
