use Rattle.std.proofs.Common.{take}
use Rattle.kp_base.specs.Writer.{Wrote}
use Rattle.kp_vwrite.specs.Texts.{nodes_text}
use Rattle.kp_vwrite.proofs.nodes.write_nodes.Given as goal

abbrev pub invariant-loop-number : goal.invariant-loop-number
invariant-loop-number g l =
    Wrote g.K.Sink.held g.K.Sink.faults l.initial.out l.out (nodes_text l.parts 0 (take l.number l.nodes))
