use Rattle.std.proofs.Common.{◌≡◌, ◌≤◌, drop}
use Rattle.kp_machine.specs.Slots.{targets_of}
use Rattle.kp_sites.specs.Sites.{result_number}
use Rattle.kp_sites.proofs.sites.result_to.Given as goal

abbrev pub invariant-loop-decl : goal.invariant-loop-decl
invariant-loop-decl l = record {
  below : l.number ≤ l.decl-index;
  same : result_number (targets_of l.decls) (drop l.decl-index l.decls) l.number l.t ≡ result_number (targets_of l.decls) l.decls 0 l.t;
}
