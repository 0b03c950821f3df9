use Rattle.std.proofs.Common.{◌≡◌, ◌≤◌, drop}
use Rattle.kp_debug_script.specs.Scripts.{register_from}
use Rattle.kp_debug_script.proofs.line.register_of.Given as goal

abbrev pub invariant-loop-decl : goal.invariant-loop-decl
invariant-loop-decl l = (register_from l.target (drop l.decl-index l.decls) l.name ≡ register_from 0 l.decls l.name) × (l.target ≤ l.decl-index)
