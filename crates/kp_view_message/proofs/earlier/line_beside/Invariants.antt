use Rattle.std.proofs.Common.{◌≡◌, drop}
use Rattle.kp_view_message.specs.Earlier.{line_beside}
use Rattle.kp_view_message.proofs.earlier.line_beside.Given as goal

abbrev pub invariant-loop-block : goal.invariant-loop-block
invariant-loop-block l = line_beside l.place l.index (drop l.block-index l.blocks) ≡ line_beside l.place l.index l.blocks
