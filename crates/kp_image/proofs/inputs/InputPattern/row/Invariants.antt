use Rattle.std.proofs.Common.{◌≡◌, ◌++◌, drop}
use Rattle.kp_image.specs.Feeds.{row_in}
use Rattle.kp_image.proofs.inputs.InputPattern.row.Given as goal

abbrev pub invariant-loop-feed : goal.invariant-loop-feed
invariant-loop-feed l = l.row.items ++ row_in (drop l.feed-index l.self) l.cycle ≡ row_in l.self l.cycle
