use Rattle.std.proofs.Common.{drop, map, string_bytes}
use Rattle.kp_base.specs.inner.Writing.{WroteUpTo}
use Rattle.kp_paths.specs.Text.{rows_from}
use Rattle.kp_paths.proofs.rows.write_blocks.Given as goal

abbrev pub invariant-loop-k : goal.invariant-loop-k
invariant-loop-k g l =
    WroteUpTo g.K.Sink.held g.K.Sink.faults (rows_from (map string_bytes l.names) l.paths l.width 0 l.blocks) (rows_from (map string_bytes l.names) l.paths l.width l.k (drop l.k l.blocks)) l.initial.out l.out
