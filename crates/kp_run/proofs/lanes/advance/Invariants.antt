use Rattle.std.proofs.Common.{◌≡◌, ℕ, length}
use Rattle.kp_pipeline.specs.Sequential.{seq}
use Rattle.kp_machine.specs.Machine.{machine_of, values_in}
use Rattle.kp_seq.specs.Running.{state}
use Rattle.kp_run.specs.Columns.{row_taken}
use Rattle.kp_run.proofs.lanes.advance.Given as goal

abbrev pub invariant-loop-i : goal.invariant-loop-i
invariant-loop-i l =
    (l.machine.job ≡ l.initial.machine.job)
    × ((s : ℕ → ℕ → ℕ) → state l.initial.machine ≡ seq (machine_of l.initial.machine.job) s (λ i. values_in (row_taken l.columns i)) l.from
    → state l.machine ≡ seq (machine_of l.initial.machine.job) s (λ i. values_in (row_taken l.columns i)) l.i)
    × (length l.room ≡ length l.columns)
