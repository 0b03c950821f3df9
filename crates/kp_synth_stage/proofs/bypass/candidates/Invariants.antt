use Rattle.std.proofs.Common.{◌≡◌, ◌*◌, length, take, All}
use Rattle.kp_net.specs.{Nodes.Cells, Growth.Grown}
use Rattle.kp_fwd.specs.Forward.{CandidateOk}
use Rattle.kp_synth_stage.specs.{Rows.asked, Reading.Matched}
use Rattle.kp_synth_stage.proofs.bypass.candidates.Given as goal

abbrev pub invariant-loop-row : goal.invariant-loop-row
invariant-loop-row l = record {
  count : length l.all.items ≡ l.row-index;
  ok : All (CandidateOk l.pool l.width) l.all.items;
  matched : (c : Cells) → Matched c l.fn.pool (asked c l.fn.pool l.address) l.pool (take l.row-index l.rows) l.all.items;
  grown : Grown l.fn.pool l.pool (4 * l.row-index);
}
