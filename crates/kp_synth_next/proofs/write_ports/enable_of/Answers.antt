use Rattle.std.proofs.Common.{subst}
use Rattle.kp_net.specs.Growth.{Wire}
use Rattle.kp_design.specs.Fits.{EnableFits}
use Rattle.kp_synth_next.proofs.Writes.{writes_none, writes_some}
use Rattle.kp_synth_next.proofs.write_ports.enable_of.Goals as goal

pub pipe_in-enable-requires-clause-pipe : goal.pipe_in-enable-requires-clause-pipe
pipe_in-enable-requires-clause-pipe c = (subst (EnableFits c.args.layout.now) c.in-Some.is c.requires.fits).0

pub both-requires-clause-second : goal.both-requires-clause-second
both-requires-clause-second c =
    subst (λ w. Wire c.pipe_in-enable.new.pool c.pipe_in-enable.result w) (subst (EnableFits c.args.layout.now) c.in-Some.is c.requires.fits).1 c.pipe_in-enable.ensures.wire

pub returns-in-Some-clause-is_test : goal.returns-in-Some-clause-is_test
returns-in-Some-clause-is_test c =
    writes_some _ _ _ _ _ _ c.in-Some.pipe 1 c.args.port c.args.update c.pipe_in-enable.result _ c.requires.port c.in-Some.is c.pipe_in-enable.ensures.grown.kept c.requires.update c.requires.updates c.pipe_in-enable.ensures.gives c.both.ensures.value

pub returns-in-None-clause-is_test : goal.returns-in-None-clause-is_test
returns-in-None-clause-is_test c = writes_none _ _ _ c.args.port _ c.requires.port c.in-None.is c.requires.updates
