use Rattle.std.proofs.{Common.arith, lemmas.Grind.common_steps}
use Rattle.kp_synth.{specs.inner.Built.SpelledFile, proofs.Spelled.none_spelled, proofs.Spelled.file_more}
use Rattle.kp_synth.proofs.files.files.Goals as goal

pub loop-decl-init : goal.loop-decl-init
loop-decl-init c = record {
  targets = grind (arith, common_steps);
  count = grind (arith, common_steps);
  files = grind (arith, common_steps);
  spelled = none_spelled SpelledFile _ c.new-files.ensures.items;
}

pub loop-decl-preserved : goal.loop-decl-preserved
loop-decl-preserved c = record {
  targets = grind (arith, common_steps);
  count = grind (arith, common_steps);
  files = grind (arith, common_steps);
  spelled = grind (arith, common_steps, file_more);
}
