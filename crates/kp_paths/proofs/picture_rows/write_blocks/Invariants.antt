use Rattle.std.proofs.Common.{◌≤◌, drop, map, string_bytes}
use Rattle.kp_base.specs.inner.Writing.{WroteUpTo}
use Rattle.kp_paths.specs.Picture.{rows_from}
use Rattle.kp_paths.proofs.picture_rows.write_blocks.Given as goal

abbrev pub invariant-loop-k : goal.invariant-loop-k
invariant-loop-k g l = record {
  text : WroteUpTo g.K.Sink.held g.K.Sink.faults (rows_from (map string_bytes l.names) l.paths 0 l.from l.blocks) (rows_from (map string_bytes l.names) l.paths l.k l.top (drop l.k l.blocks)) l.initial.out l.out;
  few : l.top ≤ 60000;
}
