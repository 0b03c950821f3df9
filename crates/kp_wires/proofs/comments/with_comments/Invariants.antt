use Rattle.std.proofs.Common.{◌≡◌, ◌≤◌}
use Rattle.kp_wires.specs.{Table.below, Comments.byte_at, Comments.line_of, Comments.note_at}
use Rattle.kp_wires.proofs.comments.with_comments.Given as goal

abbrev pub invariant-loop-n : goal.invariant-loop-n
invariant-loop-n l = (l.whole.items ≡ below (byte_at (note_at l.net l.layout l.wires) l.text) l.n) × (l.line ≡ line_of l.text l.n) × (l.line ≤ l.n)
