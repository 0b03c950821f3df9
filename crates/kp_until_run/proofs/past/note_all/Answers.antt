use Rattle.std.proofs.Common.{◌≡◌, ◌∙◌, ◌+◌, ◌<◌, ℕ, length, length-set, get_or, ap, arith}
use Rattle.std.proofs.lemmas.Grind.{get_or_default_zero}
use Rattle.kp_ast.specs.declared.tree.Job.{Job}
use Rattle.kp_machine.specs.Slots.{targets_of}
use Rattle.kp_pipeline.specs.Rows.{bit, bits}
use Rattle.kp_sched.specs.Rows.{bit_of}
use Rattle.kp_run.{specs.Homes.home_of, proofs.Machines.stages_fit, proofs.Placing.place_at}
use Rattle.kp_until_run.specs.inner.Pasts.{IsHistory}
use Rattle.kp_until_run.specs.declared.history.History.{History}
use Rattle.kp_until_run.proofs.{Opening.done_more, Opening.left_less, Opening.noted, Reaching.few_updates}
use Rattle.kp_until_run.proofs.past.note_all.Goals as goal

pub loop-t-init : goal.loop-t-init
loop-t-init c = record {
  count = c.requires.histories.count;
  done = λ u d h. absurd (omega (arith, h));
  left = λ u d h low. c.requires.histories.each u d low;
}

pub updates-moves-requires : goal.updates-moves-requires
updates-moves-requires c =
    let few = (stages_fit c.args.job.now.design.job c.job-tree.ensures.sound.stages).1 in
    omega (arith, few, ap (λ (j : Job). j.stages.value) c.job-tree.ensures.job)

pub note_update-requires-clause-few : goal.note_update-requires-clause-few
note_update-requires-clause-few c =
    let job = c.args.job.now.design.job in
    let t = c.loop-t.t in
    let inv = c.loop-t.invariant in
    let low : t < length (targets_of job.decls) = omega (arith, c.loop-t-test.true, c.requires.histories.count, inv.count) in
    let is = inv.left t c.index-histories-t.result (omega arith) low in
    let few = few_updates job c.args.cycle t in
    omega (arith, is.count, few, c.ranges.cycle)

pub loop-t-preserved : goal.loop-t-preserved
loop-t-preserved c =
    let job = c.args.job.now.design.job in
    let net = c.args.sim.now.net in
    let n = c.args.cycle in
    let limit = c.args._limit in
    let all = c.requires in
    let t = c.loop-t.t in
    let inv = c.loop-t.invariant in
    let low : t < length (targets_of job.decls) = omega (arith, c.loop-t-test.true, all.histories.count, inv.count) in
    let within : t < length c.loop-t.histories = omega (arith, low, inv.count) in
    let new = c.note_update.new.history in
    let stages = ap (λ (j : Job). j.stages.value) c.job-tree.ensures.job in
    let there : t < length c.args.homes.now = omega (arith, low, all.homes.count) in
    let home : c.from.result ≡ home_of job t = c.from.ensures ∙ get_or_default_zero c.args.homes.now t _ there ∙ all.homes.homes t there in
    let moved = c.updates-moves.ensures ∙ (λ i. bit (bits (bit_of c.args.ue) (stages i) 0) (home i)) in
    let now : IsHistory job limit (n + 1) t new =
    noted job net limit n t (get_or c.loop-t.histories t c.index-histories-t.result) new (inv.left t c.index-histories-t.result (omega arith) low) c.args.ue all.updates all.of_job all.shown
    all.low low c.updates-moves.result moved c.args.written.now all.noted _ (place_at job net c.args.places.now t _ all.places low) c.args.sim.now all.ran
    c.note_update.ensures.still c.note_update.ensures.count c.note_update.ensures.remembers in
    record {
      count = length-set c.loop-t.histories t new ∙ inv.count;
      done = done_more (λ (u : ℕ) (h : History). IsHistory job limit (n + 1) u h) c.loop-t.histories new t within inv.done now;
      left = left_less (λ (u : ℕ) (h : History). IsHistory job limit n u h) c.loop-t.histories new t (length (targets_of job.decls)) inv.left;
    }
