use Rattle.std.proofs.Common.{take}
use Rattle.kp_base.specs.Writer.{Wrote}
use Rattle.kp_vwrite.specs.Texts.{samples_text}
use Rattle.kp_vwrite.proofs.header.write_samples.Given as goal

abbrev pub invariant-loop-port : goal.invariant-loop-port
invariant-loop-port g l =
    Wrote g.K.Sink.held g.K.Sink.faults l.initial.out l.out (samples_text (take l.port-index l.ports))
