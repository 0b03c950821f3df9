use Rattle.std.proofs.Common.{◌≡◌, ◌++◌, drop}
use Rattle.kp_view_excerpt.specs.Excerpts.{blanks}
use Rattle.kp_view_excerpt.proofs.excerpt.write_blanks.Given as goal

abbrev pub invariant-loop-byte : goal.invariant-loop-byte
invariant-loop-byte l = l.out.items ++ blanks (drop l.byte-index l.bytes) ≡ l.initial.out.items ++ blanks l.bytes
