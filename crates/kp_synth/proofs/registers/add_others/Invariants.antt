use Rattle.std.proofs.Common.{◌≡◌, ◌≤◌, ◌++◌, drop}
use Rattle.kp_synth_registers.specs.Keys.{keys_of}
use Rattle.kp_synth.specs.inner.Built.{other_regs, AllSpelled, SpelledReg}
use Rattle.kp_synth.proofs.registers.add_others.Given as goal

abbrev pub invariant-loop-r : goal.invariant-loop-r
invariant-loop-r l = record {
  behind : l.from ≤ l.r;
  regs : l.regs.items ++ other_regs l.layout l.nexts l.from l.r (drop l.r (keys_of l.layout)) ≡ l.fn.regs.items ++ other_regs l.layout l.nexts l.from l.from (drop l.from (keys_of l.layout));
  spelled : AllSpelled SpelledReg l.regs.items;
}
