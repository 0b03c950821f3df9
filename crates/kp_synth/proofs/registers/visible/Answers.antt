use Rattle.std.proofs.{Common.arith, lemmas.Grind.common_steps}
use Rattle.kp_synth.{specs.inner.Built.SpelledReg, proofs.Spelled.none_spelled, proofs.Spelled.reg_more}
use Rattle.kp_synth.proofs.registers.visible.Goals as goal

pub loop-decl-init : goal.loop-decl-init
loop-decl-init c = record {
  count = grind (arith, common_steps);
  regs = grind (arith, common_steps);
  spelled = none_spelled SpelledReg _ c.new-regs.ensures.items;
}

pub loop-decl-preserved : goal.loop-decl-preserved
loop-decl-preserved c = record {
  count = grind (arith, common_steps);
  regs = grind (arith, common_steps);
  spelled = grind (arith, common_steps, reg_more);
}
