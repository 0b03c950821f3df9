-- WHERE A RUN RESTARTS.
use Rattle.std.specs.Prelude.{ℕ, zero, suc, ◌+◌, List, [], ◌∷◌, Bool, drop}
use Rattle.kp_ast.specs.declared.tree.Job.{Job}
use Rattle.kp_stage.specs.Start.{start_of}
use Rattle.kp_pipeline.specs.Machine.{State}
use Rattle.kp_pipeline.specs.Rows.{Trace, one_if}
use Rattle.kp_machine.specs.Machine.{state_of}
use Rattle.kp_net.specs.Netlist.{Input}
use Rattle.kp_implements.specs.Anew.{left_by_reset}

-- The number of cycles up to and including the last one that raises the reset, or 0 if none does.
abbrev pub counted_on : Bool → ℕ → ℕ
counted_on raised zero = one_if raised
counted_on raised (suc n) = suc (suc n)

abbrev pub to_reset : List Input → ℕ
to_reset [] = 0
to_reset (i ∷ ins) = counted_on i.reset (to_reset ins)

-- The values with which the run that starts at cycle n starts: the job's start values for cycle 0, else the state after a reset in the cycle before.
abbrev pub begins_with : Job → Trace → (cycle : ℕ) → State
begins_with job trace zero = state_of job (start_of job)
begins_with job trace (suc n) = left_by_reset job (trace.visible n)

-- The part of a trace from cycle n on.
abbrev pub since : ℕ → Trace → Trace
since n trace = record { rows = drop n trace.rows; visible = λ T. trace.visible (n + T) }
