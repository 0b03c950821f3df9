use Rattle.std.proofs.Common.{take}
use Rattle.kp_base.specs.Writer.{Wrote}
use Rattle.kp_vwrite.specs.Texts.{parts_text}
use Rattle.kp_vwrite.proofs.nodes.write_parts.Given as goal

abbrev pub invariant-loop-part : goal.invariant-loop-part
invariant-loop-part g l =
    Wrote g.K.Sink.held g.K.Sink.faults l.initial.out l.out (parts_text (take l.part-index l.parts))
