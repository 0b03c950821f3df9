use Rattle.std.proofs.Common.{◌≡◌, drop}
use Rattle.kp_base.specs.Findings.{with_answers}
use Rattle.kp_width.specs.{Widths.after_blocks, Widths.block_answers, inner.Steps.HasRoom}
use Rattle.kp_width.proofs.statements.note_blocks.Given as goal

abbrev pub invariant-loop-k : goal.invariant-loop-k
invariant-loop-k l =
    (with_answers l.found (block_answers l.decls l.k l.names (drop l.k l.blocks)) ≡ with_answers l.initial.found (block_answers l.decls 0 l.initial.names l.blocks))
    × (HasRoom l.found → after_blocks l.decls l.k l.names (drop l.k l.blocks) ≡ after_blocks l.decls 0 l.initial.names l.blocks)
