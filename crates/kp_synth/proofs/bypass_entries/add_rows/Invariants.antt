use Rattle.std.proofs.Common.{◌*◌}
use Rattle.kp_net.specs.Growth.{Grown}
use Rattle.kp_synth_stage.specs.Rows.{SourcesOk}
use Rattle.kp_synth.{specs.inner.Whole.AllNearer, proofs.Rising.FewFrom, proofs.Rising.SameFrom}
use Rattle.kp_synth.proofs.bypass_entries.add_rows.Given as goal

abbrev pub invariant-loop-t : goal.invariant-loop-t
invariant-loop-t l = record {
  ok : SourcesOk l.layout l.pool l.sources;
  few : FewFrom l.layout l.k l.t l.sources;
  same : SameFrom l.t l.fn.sources l.sources;
  done : AllNearer l.layout l.k l.t l.fn.pool l.fn.sources l.pool l.sources;
  grown : Grown l.fn.pool l.pool (20 * l.t);
}
