use Rattle.kp_stage.specs.inner.Tables.{look_up, decls_noted}
use Rattle.kp_stage.proofs.facts.OfDecls.of.Goals as goal

pub loop-i-init : goal.loop-i-init
loop-i-init c = λ i. decls_noted (record {
  hint = look_up (c.new.ensures i);
  result = look_up (c.new-2.ensures i);
  sample = look_up (c.new-3.ensures i);
  stage = look_up (c.new-4.ensures i);
  written = look_up (c.new-5.ensures i);
}) 0 c.args.decls.now
