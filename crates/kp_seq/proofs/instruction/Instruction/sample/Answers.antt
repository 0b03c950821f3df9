use Rattle.std.proofs.Common.{◌∙◌, drop, sym}
use Rattle.kp_seq.proofs.Sampling.{row_ends}
use Rattle.kp_seq.proofs.instruction.Instruction.sample.Goals as goal

pub returns-then-i-row : goal.returns-then-i-row
returns-then-i-row c =
    sym (row_ends c.loop-i.self (drop c.loop-i.i c.args.places.now) c.args.row.now c.loop-i.i c.if-i-row.true) ∙ c.loop-i.invariant
