use Rattle.std.proofs.Common.{◌≡◌, ◌++◌, map, drop}
use Rattle.kp_view_excerpt.specs.Excerpts.{printed}
use Rattle.kp_view_excerpt.proofs.excerpt.write_source.Given as goal

abbrev pub invariant-loop-byte : goal.invariant-loop-byte
invariant-loop-byte l = l.out.items ++ map printed (drop l.byte-index l.bytes) ≡ l.initial.out.items ++ map printed l.bytes
