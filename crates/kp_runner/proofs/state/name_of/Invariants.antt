use Rattle.std.proofs.Common.{◌≡◌, ◌<◌, drop, length, get_or}
use Rattle.kp_machine.specs.{Slots.targets_of, Words.no_slot}
use Rattle.kp_runner.proofs.state.name_of.Given as goal

abbrev pub invariant-loop-decl : goal.invariant-loop-decl
invariant-loop-decl l = record {
  there : l.left < length (targets_of (drop l.decl-index l.decls));
  same : get_or (targets_of l.decls) l.target no_slot ≡ get_or (targets_of (drop l.decl-index l.decls)) l.left no_slot;
}
