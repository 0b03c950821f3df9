-- Which result each target has. Results are numbered from 0 in the order of declaration.
use Rattle.std.specs.Prelude.{◌≡◌, ℕ, suc, ◌<◌, List, [], ◌∷◌, length, get_or, ◌==◌, if◌then◌else◌}
use Rattle.kp_ast.specs.declared.tree.{Decl.Decl, Job.Job}
use Rattle.kp_ast.specs.declared.tree.Decl.TheVariants as decls
use Rattle.kp_machine.specs.Slots.{Slot, targets_of, number_of}

-- The number of the first result to target t, or the number of results if there is none.
abbrev pub result_number : List Slot → List Decl → ℕ → ℕ
result_number targets [] t = 0
result_number targets (decls.Target r ∷ ds) t = if number_of targets r.target.name == t then 0 else suc (result_number targets ds t)
result_number targets (_ ∷ ds) t = result_number targets ds t

abbrev pub result_in : Job → ℕ → ℕ
result_in job t = result_number (targets_of job.decls) job.decls t

-- For each target that number.
pub record AreResults (job : Job) (numbers : List ℕ) : Type 0 where
  pub count : length numbers ≡ length (targets_of job.decls)
  pub each : (t : ℕ) → t < length numbers → get_or numbers t 0 ≡ result_in job t
