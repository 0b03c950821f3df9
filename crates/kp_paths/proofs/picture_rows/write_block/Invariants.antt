use Rattle.std.proofs.Common.{◌≤◌, drop, map, string_bytes}
use Rattle.kp_base.specs.inner.Writing.{WroteUpTo}
use Rattle.kp_paths.specs.Picture.{rows_in}
use Rattle.kp_paths.proofs.picture_rows.write_block.Given as goal

abbrev pub invariant-loop-stmt : goal.invariant-loop-stmt
invariant-loop-stmt g l = record {
  text : WroteUpTo g.K.Sink.held g.K.Sink.faults (rows_in (map string_bytes l.names) l.paths l.k l.from l.stmts) (rows_in (map string_bytes l.names) l.paths l.k l.top (drop l.stmt-index l.stmts)) l.initial.out l.out;
  few : l.top ≤ 60000;
}
