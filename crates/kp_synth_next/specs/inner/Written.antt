-- What the result of a target writes, without the address.
use Rattle.std.specs.Prelude.{ℕ, Bool, true, ◌&&◌, ◌==◌, Option, Some, None, unwrap_or}
use Rattle.kp_ast.specs.declared.tree.Job.{Job}
use Rattle.kp_pipeline.specs.{Sequential.first_value, Pipeline.PipelineState, Pipeline.Inputs, Pipeline.ue, Pipeline.outcome}
use Rattle.kp_machine.specs.Machine.{machine_of}

-- Stage w updates, and the result is enabled in it.
abbrev pub writes : Job → ℕ → ℕ → PipelineState → Inputs → Bool
writes job t w st i = ue (machine_of job) st i w && (machine_of job).enabled t (st.stage w).instruction.pipes

-- The value that it writes there.
abbrev pub written_value : Job → ℕ → ℕ → PipelineState → Inputs → ℕ
written_value job t w st i = unwrap_or (first_value ((st.stage w).instruction.results t) ((outcome (machine_of job) st i w).sets t)) 0

-- A result is enabled if the pipe of this number is 1, and writes at the address in the pipe of this number. Without a pipe it is enabled, at address
-- 0.
abbrev pub enabled_pipe : Option ℕ → (ℕ → ℕ) → Bool
enabled_pipe None values = true
enabled_pipe (Some q) values = values q == 1

abbrev pub address_pipe : Option ℕ → (ℕ → ℕ) → ℕ
address_pipe None values = 0
address_pipe (Some q) values = values q
