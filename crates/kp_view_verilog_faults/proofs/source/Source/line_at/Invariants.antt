use Rattle.std.proofs.Common.{◌≡◌, ◌+◌, ◌≤◌, take}
use Rattle.kp_base.specs.Place.{line_after}
use Rattle.kp_view_verilog_faults.proofs.source.Source.line_at.Given as goal

abbrev pub invariant-loop-byte : goal.invariant-loop-byte
invariant-loop-byte l = (l.line ≡ line_after (take l.byte-index l.before)) × (l.line ≤ l.byte-index + 1)
