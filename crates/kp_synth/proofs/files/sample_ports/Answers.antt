use Rattle.std.proofs.{Common.arith, lemmas.Grind.common_steps}
use Rattle.kp_synth.{specs.inner.Built.SpelledPort, proofs.Spelled.none_spelled, proofs.Spelled.port_more}
use Rattle.kp_synth.proofs.files.sample_ports.Goals as goal

pub loop-decl-init : goal.loop-decl-init
loop-decl-init c = record {
  samples = grind (arith, common_steps);
  ports = grind (arith, common_steps);
  spelled = none_spelled SpelledPort _ c.new-ports.ensures.items;
}

pub loop-decl-preserved : goal.loop-decl-preserved
loop-decl-preserved c = record {
  samples = grind (arith, common_steps);
  ports = grind (arith, common_steps);
  spelled = grind (arith, common_steps, port_more);
}
