-- WHAT A VERDICT SAYS about two jobs. Only `Alike` says that they are the same; that a part isn't shown to be the same is no difference of their runs.
use Rattle.std.specs.Prelude.{◌≡◌, ◌≢◌, ℕ, ◌<◌, true, length}
use Rattle.kp_ast.specs.declared.tree.Job.{Job}
use Rattle.kp_stage.specs.Start.{start_of}
use Rattle.kp_machine.specs.{Machine.machine_of, Slots.targets_of, Slots.samples_of}
use Rattle.kp_same.specs.Same.{SameJob, WriteAlike}
use Rattle.kp_same.specs.declared.{comparison.Verdict.Verdict, difference.Difference.Difference, difference.Part.Part}
use Rattle.kp_same.specs.declared.comparison.Verdict.TheVariants as verdicts
use Rattle.kp_same.specs.declared.difference.Part.TheVariants as parts

-- only one job writes the target; or both do
abbrev pub SaysOfPart : Job → Job → ℕ → Part → Type 0
SaysOfPart a b t parts.Result = (machine_of a).has_result t ≢ (machine_of b).has_result t
SaysOfPart a b t _ = ((machine_of a).has_result t ≡ true) × ((machine_of b).has_result t ≡ true)

-- the named target is one of the jobs, and all targets before it are written alike
pub record SaysOfTarget (a b : Job) (d : Difference) : Type 0 where
  pub there : d.target < length (targets_of a.decls)
  pub before : (u : ℕ) → u < d.target → WriteAlike a b u
  pub part : SaysOfPart a b d.target d.part

-- the same registers and files, and the same samples, each with its widths and in the same order
abbrev pub SameSlots : Job → Job → Type 0
SameSlots a b = (targets_of a.decls ≡ targets_of b.decls) × (samples_of a.decls ≡ samples_of b.decls)

abbrev pub Says : Job → Job → Verdict → Type 0
Says a b verdicts.Alike = SameJob a b
Says a b verdicts.Targets = targets_of a.decls ≢ targets_of b.decls
Says a b verdicts.Samples = (targets_of a.decls ≡ targets_of b.decls) × (samples_of a.decls ≢ samples_of b.decls)
Says a b verdicts.Start = SameSlots a b × (start_of a ≢ start_of b)
Says a b (verdicts.NotShown d) = SameSlots a b × (start_of a ≡ start_of b) × SaysOfTarget a b d
