use Rattle.kp_synth.proofs.Entered.{ext_bit}
use Rattle.kp_synth.proofs.stage_inputs.ext_in.Goals as goal

pub returns-clause-is_test : goal.returns-clause-is_test
returns-clause-is_test c = ext_bit c.args.layout.now c.args.pool.now c.part.new.pool c.args.reads.now c.part.result c.args.k c.requires.stage c.requires.ready c.part.ensures.word
