use Rattle.kp_base.specs.{Texts.spaces, inner.Writing.WroteUpTo}
use Rattle.kp_base.proofs.writer.Writer.spaces.Given as goal

abbrev pub invariant-loop-left : goal.invariant-loop-left
invariant-loop-left g l = WroteUpTo g.K.Sink.held g.K.Sink.faults (spaces l.count) (spaces l.left) l.initial.self l.self

abbrev pub decreases-loop-left : goal.decreases-loop-left
decreases-loop-left g l = l.left
