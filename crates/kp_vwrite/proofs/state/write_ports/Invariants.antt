use Rattle.std.proofs.Common.{take}
use Rattle.kp_base.specs.Writer.{Wrote}
use Rattle.kp_vwrite.specs.Texts.{ports_text}
use Rattle.kp_vwrite.proofs.state.write_ports.Given as goal

abbrev pub invariant-loop-file : goal.invariant-loop-file
invariant-loop-file g l =
    Wrote g.K.Sink.held g.K.Sink.faults l.initial.out l.out (ports_text l.margin (take l.file-index l.files))
