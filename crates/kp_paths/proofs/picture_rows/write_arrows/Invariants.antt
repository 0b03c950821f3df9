use Rattle.std.proofs.Common.{◌-◌, map, string_bytes}
use Rattle.kp_base.specs.inner.Writing.{WroteUpTo}
use Rattle.kp_paths.specs.{Arrows.arrows_from, Picture.arrows_text}
use Rattle.kp_paths.proofs.picture_rows.write_arrows.Given as goal

abbrev pub invariant-loop-j : goal.invariant-loop-j
invariant-loop-j g l =
    WroteUpTo g.K.Sink.held g.K.Sink.faults (arrows_text (map string_bytes l.names) l.k (arrows_from l.paths l.read l.k 0 l.count)) (arrows_text (map string_bytes l.names) l.k (arrows_from l.paths l.read l.k l.j (l.count - l.j))) l.initial.out l.out
