use Rattle.std.proofs.Common.{◌≡◌, ℕ, List, ap, arith, length}
use Rattle.kp_machine.specs.Slots.{sample_stages}
use Rattle.kp_run.proofs.{Given.feeds_many, Machines.stages_fit, Samples.few}
use Rattle.kp_run.proofs.columns.columns_of.Goals as goal

pub overflow_cast-x : goal.overflow_cast-x
overflow_cast-x c =
    let accepted = c.args.job.now in
    let job = accepted.design.job in
    let stages : length c.in_ok-stages.stages.items ≡ length (sample_stages job.decls) = rw (c.as_slice.ensures, c.job-tree.ensures.job) at (ap (λ (l : List ℕ). length l) c.in_ok-stages.ensures) in
    let small = few job.decls in
    omega (arith, stages, small, accepted.few, c.loop-x-test.true)

pub column_for-requires-clause-sample : goal.column_for-requires-clause-sample
column_for-requires-clause-sample c =
    let accepted = c.args.job.now in
    let job = accepted.design.job in
    let sound = c.job-tree.ensures.sound in
    let stages : length c.in_ok-stages.stages.items ≡ length (sample_stages job.decls) = rw (c.as_slice.ensures, c.job-tree.ensures.job) at (ap (λ (l : List ℕ). length l) c.in_ok-stages.ensures) in
    let fed = feeds_many job accepted.sections.inputs sound.names accepted.unbroken accepted.inputs in
    omega (arith, stages, fed, c.loop-x-test.true)

pub column_for-requires-clause-few : goal.column_for-requires-clause-few
column_for-requires-clause-few c = rw c.job-tree.ensures.job (stages_fit c.args.job.now.design.job c.job-tree.ensures.sound.stages).1
