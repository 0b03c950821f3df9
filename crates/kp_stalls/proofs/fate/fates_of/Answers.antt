use Rattle.std.proofs.Common.{◌∙◌, drop, length-set, arith}
use Rattle.kp_sched.specs.Rows.{rows_seen}
use Rattle.kp_stalls.proofs.Fates.{all_fates, next_fates}
use Rattle.kp_stalls.proofs.fate.fates_of.Goals as goal

pub loop-cycle-preserved : goal.loop-cycle-preserved
loop-cycle-preserved c =
    let kept = c.loop-cycle.invariant in
    let n = c.args.n in
    let rows = c.args.rows.now in
    let T = c.loop-cycle.cycle in
    let now = c.fates_before-after.ensures.fates (rows_seen n (drop T rows)) kept.next in
    record {
      count = length-set _ _ _ ∙ kept.count;
      within = let w = kept.within in omega (arith, w);
      last = c.fates_before-after.ensures.length;
      next = next_fates n rows T _ _ _ c.loop-cycle-test.true kept.within kept.count now;
      fates = all_fates n rows T _ _ _ c.loop-cycle-test.true kept.within kept.count now kept.fates;
    }
