use Rattle.std.proofs.Common.{◌≡◌, ◌++◌, replicate}
use Rattle.kp_diagram_labels.proofs.columns.add_spaces.Given as goal

abbrev pub invariant-loop-i : goal.invariant-loop-i
invariant-loop-i l = l.out.items ≡ l.initial.out.items ++ replicate l._i 32
