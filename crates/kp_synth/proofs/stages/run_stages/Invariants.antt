use Rattle.std.proofs.Common.{◌≡◌, suc, ◌+◌, ◌-◌, length}
use Rattle.kp_synth_registers.specs.Meaning.{Added}
use Rattle.kp_synth.specs.{inner.Descending.Faces, inner.Descending.NamedFrom, inner.Descending.SayFrom, Stages.stages_room}
use Rattle.kp_synth.proofs.stages.run_stages.Given as goal

abbrev pub invariant-loop-j : goal.invariant-loop-j
invariant-loop-j l = record {
  faces : Faces l.layout l.pool l.sources.items l.higher (l.n - l.j);
  says : SayFrom l.layout l.pool (suc (l.n - l.j)) l.stages.outcomes.items;
  count : suc (length l.stages.outcomes.items) ≡ l.j;
  names : NamedFrom l.layout l.pool (suc (l.n - l.j)) l.stages.names.items;
  name_count : suc (length l.stages.names.items) ≡ l.j;
  added : Added l.layout l.fn.pool l.pool (stages_room l.layout (suc (l.n - l.j)) (length l.stages.outcomes.items) + 1);
}
