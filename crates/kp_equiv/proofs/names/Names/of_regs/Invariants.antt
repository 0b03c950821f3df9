use Rattle.std.proofs.Common.{◌≡◌, ◌++◌, drop, map}
use Rattle.kp_net.specs.declared.netlist.NetReg.{NetReg}
use Rattle.kp_equiv.proofs.names.Names.of_regs.Given as goal

abbrev pub invariant-loop-reg : goal.invariant-loop-reg
invariant-loop-reg l = map (λ n. n.now) l.names.items ++ map (λ (x : NetReg). x.name) (drop l.reg-index l.regs) ≡ map (λ (x : NetReg). x.name) l.regs
