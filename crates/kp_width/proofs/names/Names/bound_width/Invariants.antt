use Rattle.std.proofs.Common.{◌≡◌, drop}
use Rattle.kp_width.specs.Names.{bound_width}
use Rattle.kp_width.proofs.names.Names.bound_width.Given as goal

abbrev pub invariant-loop-entry : goal.invariant-loop-entry
invariant-loop-entry l = bound_width (drop l.entry-index l.self.entries) l.name ≡ bound_width l.self.entries l.name
