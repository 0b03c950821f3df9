use Rattle.std.proofs.Common.{◌+◌, ◌-◌}
use Rattle.kp_diagram_text.specs.{Text.cycle_numbers, inner.Writing.WroteUpTo}
use Rattle.kp_diagram_text.proofs.text.write_numbers.Given as goal

abbrev pub invariant-loop-cycle : goal.invariant-loop-cycle
invariant-loop-cycle g l =
    WroteUpTo (cycle_numbers l.width l.from l.count) (cycle_numbers l.width (l.from + l.cycle) (l.count - l.cycle))
    (g.K.Sink.held l.initial.sink) (g.K.Sink.faults l.initial.sink) l.initial.writing (g.K.Sink.held l.sink) (g.K.Sink.faults l.sink) l.writing
