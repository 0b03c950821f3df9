use Rattle.std.proofs.Common.{◌≡◌, drop}
use Rattle.kp_stage.specs.{Facts.largest, inner.Tables.look_up}
use Rattle.kp_stage.proofs.facts.top_of.Given as goal

abbrev pub invariant-loop-block : goal.invariant-loop-block
invariant-loop-block l = largest (look_up l.writes) l.top (drop l.block-index l.blocks) ≡ largest (look_up l.writes) 0 l.blocks
