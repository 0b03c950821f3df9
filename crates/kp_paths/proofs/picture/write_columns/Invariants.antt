use Rattle.std.proofs.Common.{◌-◌, map, string_bytes}
use Rattle.kp_base.specs.inner.Writing.{WroteUpTo}
use Rattle.kp_paths.specs.Picture.{columns_text}
use Rattle.kp_paths.proofs.picture.write_columns.Given as goal

abbrev pub invariant-loop-j : goal.invariant-loop-j
invariant-loop-j g l =
    WroteUpTo g.K.Sink.held g.K.Sink.faults (columns_text (map string_bytes l.names) l.low 0 l.count) (columns_text (map string_bytes l.names) l.low l.j (l.count - l.j)) l.initial.out l.out
