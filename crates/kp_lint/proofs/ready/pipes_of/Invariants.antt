use Rattle.std.proofs.Common.{◌≡◌, drop}
use Rattle.kp_lint.specs.Tables.{value_of}
use Rattle.kp_lint.specs.Ready.{after_blocks, known_in}
use Rattle.kp_lint.proofs.ready.pipes_of.Given as goal

abbrev pub invariant-loop-stage : goal.invariant-loop-stage
invariant-loop-stage l = after_blocks l.stage (value_of l.pipes.entries) (drop l.stage l.blocks) ≡ known_in l.blocks
