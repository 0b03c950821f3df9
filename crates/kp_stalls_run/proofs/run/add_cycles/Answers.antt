use Rattle.std.proofs.Common.{◌≡◌, ◌∙◌, ℕ, ◌+◌, ◌-◌, ◌<◌, ◌≤◌, take, length, subst, arith}
use Rattle.kp_machine.specs.Machine.{values_in}
use Rattle.kp_pipeline.specs.Rows.{counts}
use Rattle.kp_run.{specs.Columns.row_taken, proofs.Machines.stages_fit}
use Rattle.kp_sched.specs.Rows.{rows_seen}
use Rattle.kp_stalls.specs.Windows.{Follows}
use Rattle.kp_stalls_run.proofs.Cycles.{next_close, numbers_are, numbers_small, one_cycle, seen_more}
use Rattle.kp_stalls_run.proofs.run.add_cycles.Goals as goal

pub overflow_cast-n : goal.overflow_cast-n
overflow_cast-n c =
    let few : c.job-tree.result.now.stages.value ≤ 12 = rw c.job-tree.ensures.job (stages_fit c.args.known.now.job.now.design.job c.job-tree.ensures.sound.stages).1 in
    omega (arith, few)

pub open-monitor-requires-clause-some : goal.open-monitor-requires-clause-some
open-monitor-requires-clause-some c = rw c.job-tree.ensures.job (stages_fit c.args.known.now.job.now.design.job c.job-tree.ensures.sound.stages).0

pub open-monitor-requires-clause-few : goal.open-monitor-requires-clause-few
open-monitor-requires-clause-few c = rw c.job-tree.ensures.job (stages_fit c.args.known.now.job.now.design.job c.job-tree.ensures.sound.stages).1

pub reach-requires-clause-small : goal.reach-requires-clause-small
reach-requires-clause-small c =
    let known = c.args.known.now in
    let job = known.job.now.design.job in
    let kept = c.loop-cycle.invariant in
    let low = c.loop-cycle-test.true in
    let fit = (stages_fit job c.job-tree.ensures.sound.stages).0 in
    let small = numbers_small job.stages.value known.rows.now c.loop-cycle.cycle c.loop-cycle.monitor kept.stages kept.seen (omega (arith, low)) 0 (omega (arith, fit)) in
    omega (arith, low, c.requires.few, small, c.count.ensures.kept)

pub loop-cycle-preserved : goal.loop-cycle-preserved
loop-cycle-preserved c =
    let known = c.args.known.now in
    let job = known.job.now.design.job in
    let n = job.stages.value in
    let rows = known.rows.now in
    let given : ℕ → ℕ → ℕ = λ i. values_in (row_taken known.samples.now.columns.items i) in
    let kept = c.loop-cycle.invariant in
    let T = c.loop-cycle.cycle in
    let low : T < length rows = c.loop-cycle-test.true in
    let fit = stages_fit job c.job-tree.ensures.sound.stages in
    let monitor = c.loop-cycle.monitor in
    let window = c.reach.new.window in
    let numbers = numbers_are n rows T monitor kept.stages kept.seen (omega (arith, low)) in
    let first : c.count.result ≡ counts n (rows_seen n rows) T 0 = c.count.ensures.kept ∙ numbers 0 (omega (arith, fit.0)) in
    let next = c.reach.ensures.next in
    let few = c.requires.close.few T in
    let least : counts n (rows_seen n rows) T 0 < window.next = omega (arith, first, next) in
    let most : window.next ≤ counts n (rows_seen n rows) T (n - 1) + n = omega (arith, first, next, kept.next, few) in
    let follows : Follows job given window =
    subst (λ j. Follows j given c.loop-cycle.window → Follows j given window) kept.job_is (rw c.as_slice.ensures.value at c.reach.ensures.follows) kept.follows in
    record {
      stages = c.cycle.ensures.stages ∙ kept.stages;
      seen = seen_more c.cycle.new.self rows T _ low (c.cycle.ensures.seen (take T rows) kept.seen);
      job_is = c.reach.ensures.job ∙ kept.job_is;
      sites = c.reach.ensures.sites ∙ kept.sites;
      next = next_close n (rows_seen n rows) c.requires.close T window.next most;
      follows = follows;
      room = c.reach.ensures.room ∙ kept.room;
      same = one_cycle job given rows known.words.now known.fates.now T _ _ _ low c.requires.close fit.1 c.requires.count c.requires.words c.requires.fates
          window (c.reach.ensures.sites ∙ kept.sites) follows least most monitor.counts numbers monitor.stages kept.stages _ _ _ c.in_ok-add_cycle.ensures kept.same;
    }
