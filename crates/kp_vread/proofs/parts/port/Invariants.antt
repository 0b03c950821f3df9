use Rattle.std.proofs.Common.{◌≡◌, drop}
use Rattle.kp_vread.specs.inner.Parts.{port_by}
use Rattle.kp_vread.proofs.parts.port.Given as goal

abbrev pub invariant-loop-update : goal.invariant-loop-update
invariant-loop-update l = port_by l.wires (drop l.update-index l.updates) l.file ≡ port_by l.wires l.updates l.file
