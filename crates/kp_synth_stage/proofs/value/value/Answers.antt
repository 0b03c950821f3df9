use Rattle.kp_synth_stage.proofs.Expressions.{sound_here, gives_wire}
use Rattle.kp_synth_stage.proofs.value.value.Goals as goal

pub expr-requires-clause-sound : goal.expr-requires-clause-sound
expr-requires-clause-sound c =
    sound_here c.args.d.now.job c.job-job.ensures.sound.names c.args.k c.args.j c.args.pool.now c.args.env.now c.spare-spare.ensures.right c.requires.env c.args.e.now c.requires.right

pub returns-clause-wire : goal.returns-clause-wire
returns-clause-wire c =
    gives_wire c.args.d.now.job c.job-job.ensures.sound.names c.args.k c.args.j c.args.pool.now c.args.env.now c.spare-spare.ensures.right c.requires.env c.args.e.now c.requires.right
    c.expr.new.pool c.in_ok-node.node c.in_ok-node.ensures.inside c.in_ok-node.ensures.gives
