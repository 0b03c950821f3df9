-- A job that violates no rule of stages has a block for each stage.
use Rattle.std.proofs.Common.{◌≡◌, ℕ, ◌+◌, ◌<◌, ◌≤◌, List, [], ◌∷◌, None, length, arith}
use Rattle.std.proofs.lemmas.Bool.{and_parts, ltb-true}
use Rattle.std.specs.Prelude.{◌==◌, nat_lt}
use Rattle.kp_base.specs.First.{first}
use Rattle.kp_ast.specs.declared.tree.{Block.Block, Job.Job}
use Rattle.kp_stage.specs.{Facts.facts_of, Rules.ask_block, Rules.ask_stmts, Rules.ask_in_block, Rules.ask_blocks, declared.rules.Rule.Rule, Stages.broken_of}
use Rattle.kp_stage.proofs.{Unbroken.first_none, Unbroken.none_of_both, Unbroken.answer_none, Unbroken.stages_kept, Kept.rules_kept, Kept.blocks_kept}

module _ (job : Job) where
  -- the number of a block is one of the stages
  block_inside : (k : ℕ) (b : Block) → ask_block (facts_of job) Rule.E15 k b ≡ None → k < job.stages.value
  block_inside k b e = ltb-true k job.stages.value (and_parts (b.number.value == k) (nat_lt k job.stages.value) (answer_none _ _ e)).1

  blocks_inside : (k : ℕ) (bs : List Block) → k ≤ job.stages.value → first (ask_blocks (facts_of job) Rule.E15 k bs) ≡ None → k + length bs ≤ job.stages.value
  blocks_inside k [] l e = omega (arith, l)
  blocks_inside k (b ∷ bs) l e =
      let x = none_of_both (ask_in_block (facts_of job) Rule.E15 k b) (ask_blocks (facts_of job) Rule.E15 (k + 1) bs) e in
      let i = block_inside k b (first_none (ask_block (facts_of job) Rule.E15 k b) (ask_stmts (facts_of job) Rule.E15 k 0 b.stmts) x.0).0 in
      let r = blocks_inside (k + 1) bs (omega (arith, i)) x.1 in
      omega (arith, r)

-- so there is a block for each stage
pub stages_inside : (job : Job) → broken_of job ≡ None → length job.blocks ≡ job.stages.value
stages_inside job e =
    let kept = rules_kept job e in
    let few = blocks_inside job 0 job.blocks (omega arith) (blocks_kept (facts_of job) job kept Rule.E15) in
    let many = (stages_kept (facts_of job) job kept).2 in
    omega (arith, few, many)
