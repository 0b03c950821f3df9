-- The errors of a call that reads the module of a job.
use Rattle.std.specs.Prelude.{◌≡◌, ℕ, List, Err, ⊤}
use Rattle.kp_base.specs.declared.refusal.Refused.{Refused}
use Rattle.kp_base.specs.declared.refusal.Refused.TheVariants as refused
use Rattle.kp_ast.specs.declared.tree.Job.{Job}
use Rattle.kp_tool.specs.{Compared.ReadsModule, declared.failure.Failure.Failure}
use Rattle.kp_tool.specs.declared.failure.Failure.TheVariants as failure
use Rattle.kp_tool.specs.declared.failure.Stop.TheVariants as stop

-- the first violated rule, or out of memory
abbrev pub RefusesModule : Job → List ℕ → ℕ → Refused → Type 0
RefusesModule job text from (refused.Rule r) = ReadsModule job text from (Err r)
RefusesModule job text from refused.NoMemory = ⊤

-- the same, where the violated rule is known to be one of Verilog
abbrev pub MisreadsModule : Job → List ℕ → ℕ → Failure → Type 0
MisreadsModule job text from (failure.Misread r) = ReadsModule job text from (Err r)
MisreadsModule job text from (failure.Refused r) = ⊥
MisreadsModule job text from (failure.Stopped s) = s ≡ stop.NoMemory
