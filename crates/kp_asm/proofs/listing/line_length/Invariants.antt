use Rattle.std.proofs.Common.{◌≡◌, ◌+◌, drop}
use Rattle.kp_asm.specs.inner.Listing.{line_length}
use Rattle.kp_asm.proofs.listing.line_length.Given as goal

abbrev pub invariant-loop-i : goal.invariant-loop-i
invariant-loop-i l = l.i + line_length (drop l.i l.tokens) ≡ line_length l.tokens
