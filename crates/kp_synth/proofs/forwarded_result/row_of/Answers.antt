use Rattle.kp_net.specs.Widths.{wide}
use Rattle.kp_synth.proofs.forwarded_result.row_of.Goals as goal

pub carried-carry-requires-clause-set : goal.carried-carry-requires-clause-set
carried-carry-requires-clause-set c = c.pair_of-pair.ensures.fits c.args.pool.now (wide c.args.pool.now.nodes c.args.stored.value.0) c.requires.set
