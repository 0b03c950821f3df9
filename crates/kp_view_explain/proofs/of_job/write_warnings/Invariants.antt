use Rattle.std.specs.Prelude.{take}
use Rattle.kp_view_explain.specs.Printed.{Prints}
use Rattle.kp_view_explain.proofs.of_job.write_warnings.Given as goal

abbrev pub invariant-loop-lint : goal.invariant-loop-lint
invariant-loop-lint l = Prints l.file l.text l.job (take l.lint-index l.found) l.initial.out.items l.out.items
