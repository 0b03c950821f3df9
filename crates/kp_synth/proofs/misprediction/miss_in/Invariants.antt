use Rattle.std.proofs.Common.{◌+◌}
use Rattle.kp_net.specs.Growth.{Wire}
use Rattle.kp_synth_registers.specs.Meaning.{Added}
use Rattle.kp_synth.specs.{Stages.guess_room, inner.Whole.Misses}
use Rattle.kp_synth.proofs.misprediction.miss_in.Given as goal

abbrev pub invariant-loop-g : goal.invariant-loop-g
invariant-loop-g l = record {
  wire : Wire l.pool l.miss 1;
  misses : Misses l.layout l.pool l.k l.g l.miss;
  added : Added l.layout l.fn.pool l.pool (guess_room l.layout l.g + 1);
}
