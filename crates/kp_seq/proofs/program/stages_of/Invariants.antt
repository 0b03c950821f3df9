use Rattle.std.proofs.Common.{take}
use Rattle.kp_seq.specs.inner.Resolved.{AllDo}
use Rattle.kp_seq.proofs.program.stages_of.Given as goal

abbrev pub invariant-loop-block : goal.invariant-loop-block
invariant-loop-block l = AllDo l.tables l.widths (take l.block-index l.blocks) l.stages.items
