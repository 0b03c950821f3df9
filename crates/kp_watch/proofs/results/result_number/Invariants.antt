use Rattle.std.proofs.Common.{◌≡◌, ◌+◌, ◌≤◌, drop}
use Rattle.kp_machine.specs.Slots.{targets_of}
use Rattle.kp_watch.specs.inner.Results.{result_number}
use Rattle.kp_watch.proofs.results.result_number.Given as goal

abbrev pub invariant-loop-decl : goal.invariant-loop-decl
invariant-loop-decl l =
    (l.number + result_number (targets_of l.decls) (drop l.decl-index l.decls) l.t ≡ result_number (targets_of l.decls) l.decls l.t) × (l.number ≤ l.decl-index)
