use Rattle.std.{proofs.Common.◌≡◌, proofs.Common.take, specs.Prelude.flat_map}
use Rattle.kp_wires.specs.Texts.{wire_row}
use Rattle.kp_wires.proofs.listed.wires_text.Given as goal

abbrev pub invariant-loop-wire : goal.invariant-loop-wire
invariant-loop-wire l = l.text.items ≡ flat_map (wire_row l.job) (take l.wire-index l.wires)
