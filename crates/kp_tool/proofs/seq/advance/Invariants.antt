use Rattle.std.proofs.Common.{◌≡◌}
use Rattle.kp_pipeline.specs.Sequential.{seq}
use Rattle.kp_image.specs.Feeds.{row_in}
use Rattle.kp_machine.specs.Machine.{machine_of, values_in}
use Rattle.kp_seq.specs.Running.{state}
use Rattle.kp_tool.proofs.seq.advance.Given as goal

abbrev pub invariant-loop-i : goal.invariant-loop-i
invariant-loop-i l =
    (l.machine.job ≡ l.initial.machine.job)
    × (state l.machine ≡ seq (machine_of l.initial.machine.job) (state l.initial.machine) (λ i. values_in (row_in l.inputs i)) l.i)
