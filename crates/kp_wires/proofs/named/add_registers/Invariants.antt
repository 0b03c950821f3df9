use Rattle.std.proofs.Common.{◌≡◌, ◌++◌}
use Rattle.kp_wires.specs.{Table.below, Texts.own_register}
use Rattle.kp_wires.proofs.named.add_registers.Given as goal

abbrev pub invariant-loop-register : goal.invariant-loop-register
invariant-loop-register l = l.out.items ≡ l.fn.out.items ++ below (own_register l.net l.layout l.k) l.register
