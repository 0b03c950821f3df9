use Rattle.std.proofs.Common.{◌-◌}
use Rattle.kp_base.specs.inner.Writing.{WroteUpTo}
use Rattle.kp_paths.specs.Text.{cells_text}
use Rattle.kp_paths.proofs.rows.write_cells.Given as goal

abbrev pub invariant-loop-j : goal.invariant-loop-j
invariant-loop-j g l =
    WroteUpTo g.K.Sink.held g.K.Sink.faults (cells_text l.paths l.read l.width l.k 0 l.count) (cells_text l.paths l.read l.width l.k l.j (l.count - l.j)) l.initial.out l.out
