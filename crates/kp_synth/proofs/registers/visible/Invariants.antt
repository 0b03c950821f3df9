use Rattle.std.proofs.Common.{◌≡◌, ◌+◌, ◌++◌, drop}
use Rattle.kp_synth.specs.inner.Built.{reg_count, visible_regs, AllSpelled, SpelledReg}
use Rattle.kp_synth.proofs.registers.visible.Given as goal

abbrev pub invariant-loop-decl : goal.invariant-loop-decl
invariant-loop-decl l = record {
  count : l.i + reg_count (drop l.decl-index l.decls) ≡ reg_count l.decls;
  regs : l.regs.items ++ visible_regs l.starts l.nexts l.i (drop l.decl-index l.decls) ≡ visible_regs l.starts l.nexts 0 l.decls;
  spelled : AllSpelled SpelledReg l.regs.items;
}
