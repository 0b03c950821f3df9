use Rattle.std.proofs.Common.{◌≡◌, drop, map}
use Rattle.kp_base.specs.Lines.{piece_of}
use Rattle.kp_directive.specs.Faults.{no_name}
use Rattle.kp_directive.proofs.rules.no_name.Given as goal

abbrev pub invariant-loop-name : goal.invariant-loop-name
invariant-loop-name l = no_name (map (piece_of l.text) (drop l.name-index l.names)) ≡ no_name (map (piece_of l.text) l.names)
