use Rattle.std.proofs.Common.{◌≡◌, drop}
use Rattle.kp_base.specs.Findings.{with_answers}
use Rattle.kp_stage.specs.{Rules.ask_blocks, inner.Tables.facts_in}
use Rattle.kp_stage.proofs.rules.in_blocks.Given as goal

abbrev pub invariant-loop-k : goal.invariant-loop-k
invariant-loop-k l = with_answers l.notes (ask_blocks (facts_in l.facts) l.rule l.k (drop l.k l.blocks)) ≡ with_answers l.initial.notes (ask_blocks (facts_in l.facts) l.rule 0 l.blocks)
