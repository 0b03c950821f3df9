use Rattle.std.{proofs.Common.◌≡◌, proofs.Common.◌++◌, proofs.Common.take, specs.Prelude.flat_map}
use Rattle.kp_wires.specs.Texts.{own_wire}
use Rattle.kp_wires.proofs.named.add_wires.Given as goal

abbrev pub invariant-loop-wire : goal.invariant-loop-wire
invariant-loop-wire l = l.out.items ≡ l.fn.out.items ++ flat_map (own_wire l.net l.layout l.k) (take l.wire-index l.wires)
