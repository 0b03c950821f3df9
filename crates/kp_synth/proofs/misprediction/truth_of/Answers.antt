use Rattle.std.proofs.Common.{ℕ, ◌+◌, ◌-◌, ◌*◌, length, subst, arith}
use Rattle.kp_ast.specs.declared.tree.Job.{Job}
use Rattle.kp_synth_registers.{specs.Meaning.Added, proofs.Growth.added_more}
use Rattle.kp_synth.proofs.misprediction.truth_of.Goals as goal

pub returns-clause-added : goal.returns-clause-added
returns-clause-added c =
    let n : ℕ = c.args.layout.now.stages.value in
    let few = c.requires.source.few in
    subst (λ (job : Job). Added job c.args.pool.now c.source_truth.new.pool (20 * n - 11)) c.design-d.ensures
    (added_more c.design-d.result.now.job c.args.pool.now c.source_truth.new.pool (20 * length c.args.source.now.rows.items + 9) (20 * n - 11) c.in_ok-truth.ensures.added (omega (arith, few)))
