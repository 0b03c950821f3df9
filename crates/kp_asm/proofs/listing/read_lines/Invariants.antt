use Rattle.std.proofs.Common.{◌≡◌, length}
use Rattle.kp_asm.specs.Program.{lines_of, lines_read, nothing_read}
use Rattle.kp_asm.proofs.listing.read_lines.Given as goal

abbrev pub invariant-loop-rest : goal.invariant-loop-rest
invariant-loop-rest l = lines_read l.text l.program (lines_of l.rest) ≡ lines_read l.text nothing_read (lines_of l.tokens)

abbrev pub decreases-loop-rest : goal.decreases-loop-rest
decreases-loop-rest l = length l.rest
