use Rattle.kp_synth_registers.proofs.Steps.{stage_turn}
use Rattle.kp_synth_registers.proofs.keys.add_stages.Goals as goal

pub loop-k-preserved : goal.loop-k-preserved
loop-k-preserved c = stage_turn c.args.layout.now c.args.stages c.loop-k.k c.loop-k.keys.items c.add_stage.new.keys.items _ c.loop-k-test.true c.in_ok-add_stage.ensures c.loop-k.invariant
