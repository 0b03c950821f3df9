use Rattle.std.proofs.Common.{drop}
use Rattle.kp_base.specs.inner.Writing.{WroteUpTo}
use Rattle.kp_diagram_text.specs.{Charts.rows_of}
use Rattle.kp_sched.specs.Rows.{rows_seen}
use Rattle.kp_diagram_svg.specs.Picture.{columns_text}
use Rattle.kp_diagram_svg.proofs.columns.write_columns.Given as goal

abbrev pub invariant-loop-cycle : goal.invariant-loop-cycle
invariant-loop-cycle g l =
    WroteUpTo g.K.Sink.held g.K.Sink.faults (columns_text l.half 0 (rows_of l.chart)) (columns_text l.half l.cycle (rows_seen l.chart.stages (drop l.cycle l.chart.rows.now)))
    l.initial.out l.out
