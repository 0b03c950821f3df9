use Rattle.std.proofs.Common.{◌≡◌, ◌++◌, drop}
use Rattle.kp_stalls_text.specs.Labels.{labels_in}
use Rattle.kp_stalls_text.proofs.labels.add_labels.Given as goal

abbrev pub invariant-loop-stmt : goal.invariant-loop-stmt
invariant-loop-stmt l = l.labels.items ++ labels_in (drop l.stmt-index l.stmts) ≡ l.initial.labels.items ++ labels_in l.stmts
