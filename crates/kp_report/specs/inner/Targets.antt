-- The target number of a declaration.
use Rattle.std.specs.Prelude.{◌≡◌, ℕ, ◌<◌, ◌≤◌, length, get_or}
use Rattle.kp_ast.specs.declared.tree.{Decl.Decl, Job.Job}
use Rattle.kp_ast.specs.declared.tree.Decl.TheVariants as decls
use Rattle.kp_machine.specs.{Slots.Slot, Slots.slot, Slots.targets_of, Words.HasWord, Words.no_slot}

-- target number t is the slot
pub record IsTarget (job : Job) (t : ℕ) (s : Slot) : Type 0 where
  pub within : t < length (targets_of job.decls)
  pub is : get_or (targets_of job.decls) t no_slot ≡ s

-- a file has at most 2^16 words
abbrev pub IsSmall : Decl → Type 0
IsSmall (decls.File n width address) = address.value ≤ 16
IsSmall _ = Unit {0}

-- a register or file is target number t, and a file is small
abbrev pub StandsAt : Job → ℕ → Decl → Type 0
StandsAt job t (decls.Reg n width start) = IsTarget job t (slot n width 0)
StandsAt job t (decls.File n width address) = IsTarget job t (slot n width address.value) × (address.value ≤ 16)
StandsAt job t _ = Unit {0}

-- a target has at least this number of addresses
abbrev pub HasWords : Job → ℕ → ℕ → Type 0
HasWords job t count = (a : ℕ) → a < count → HasWord job t a
