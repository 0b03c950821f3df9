use Rattle.std.proofs.Common.{◌≡◌, ◌∙◌, ◌≤◌, ◌<◌, ◌+◌, ◌^◌, ◌++◌, ℕ, suc, List, length, false, ap, ap₂, sym, subst, refl, arith}
use Rattle.kp_base.specs.declared.row.Row.{Row}
use Rattle.kp_bits.specs.Word.{Word}
use Rattle.kp_net.specs.Netlist.{last_of, row_of}
use Rattle.kp_cycle.specs.Steps.{Running}
use Rattle.kp_run.{specs.Cycles.after_cycles, specs.Cycles.inputs_to, specs.Cycles.input_at, proofs.Given.as_feeds, proofs.Machines.stages_fit}
use Rattle.kp_vcd.specs.{Recording.Values, Recording.HasRecorded, Recording.moments_before, Dumps.values_at, Dumps.own_run, Dumps.no_row}
use Rattle.kp_vcd.specs.inner.Shown.{shown_at, mask_values}
use Rattle.kp_vcd.proofs.RunValues.{values_in_cycle, values_behind_all, values_few}
use Rattle.kp_vcd.proofs.run_dump.moments_of.Goals as goal

pub open-requires : goal.open-requires
open-requires c =
    let outputs = c.requires.shows.outputs in
    record { ext = outputs.few; full = outputs.full; ue = outputs.ue; back = outputs.back }

pub overflow_cast-stages : goal.overflow_cast-stages
overflow_cast-stages c =
    let few : c.job.result.now.stages.value ≤ 12 = rw c.job.ensures.job (stages_fit c.args.job.now.design.job c.job.ensures.sound.stages).1 in
    omega (arith, few)

pub loop-cycle-init : goal.loop-cycle-init
loop-cycle-init c =
    let job = c.args.job.now.design.job in
    record {
      sim = c.in_ok-sim.ensures;
      recorded =
          (let vals = values_at job (own_run job c.args.count) in
          subst (λ (m : ℕ). HasRecorded vals m 0 c.new-recorder.result) c.from-last.ensures (c.new-recorder.ensures vals));
      room = rw c.as_mut_slice-room.ensures.value (ap (λ (l : List Word). length l) c.in_ok-samples.ensures ∙ as_feeds c.args.job.now.sections.inputs 0);
    }

pub next_cycle-row-requires-clause-samples : goal.next_cycle-row-requires-clause-samples
next_cycle-row-requires-clause-samples c = rw c.loop-cycle.invariant.sim c.requires.shows.of_job.samples

pub loop-cycle-preserved : goal.loop-cycle-preserved
loop-cycle-preserved c =
    let job = c.args.job.now.design.job in
    let net = c.args.net.now in
    let n = c.loop-cycle.cycle in
    let kept = c.loop-cycle.invariant in
    let begin = last_of net (inputs_to job n) in
    let registers_are : c.in_ok-registers.registers.items ≡ shown_at (after_cycles job net n) c.args.places.now =
    c.in_ok-registers.ensures ∙ ap (λ (s : Running). shown_at s c.args.places.now) kept.sim in
    let few = (stages_fit job c.job.ensures.sound.stages).1 in
    let stages : c.job.result.now.stages.value ≡ job.stages.value = rw c.job.ensures.job refl in
    let now_is : c.in_ok-now.now.items ≡ values_at job (own_run job c.args.count) n =
    c.in_ok-now.ensures
    ∙ ap₂ (λ (k : ℕ) (r : Row). mask_values k r ++ c.as_slice.result.now) stages (c.next_cycle-row.ensures.row net kept.sim)
    ∙ ap (λ (vs : Values). mask_values job.stages.value (row_of net (input_at job n) begin) ++ vs) (c.as_slice.ensures.value ∙ registers_are)
    ∙ values_in_cycle job net c.args.count c.requires.shows (c.a_job_gives_its_own_inputs.ensures.seen c.args.count) (c.a_job_gives_its_own_inputs.ensures.quiet c.args.count) n c.args.places.now
    c.loop-cycle-test.true few c.requires.places in
    record {
      sim = c.next_cycle-row.ensures.sim net kept.sim;
      recorded =
          (let vals = values_at job (own_run job c.args.count) in
          let last = kept.recorded.last in
          let old = subst (λ (m : ℕ). HasRecorded vals m n c.loop-cycle.recorder) (sym last) kept.recorded in
          subst (λ (m : ℕ). HasRecorded vals m (n + 1) c.record.new.self) last (c.in_ok-record.ensures vals n old now_is));
      room = c.next_cycle-row.ensures.room ∙ kept.room;
    }

pub record-requires-clause-few : goal.record-requires-clause-few
record-requires-clause-few c =
    let outputs = mask_values c.job.result.now.stages.value c.next_cycle-row.result in
    let few : length c.in_ok-now.now.items < 2 ^ 32 =
    values_few c.args.job.now.design.job c.args.net.now c.args.places.now c.loop-cycle.sim outputs c.in_ok-now.now.items c.in_ok-registers.registers.items c.job.ensures.sound.stages c.requires.places
    refl c.in_ok-registers.ensures (c.in_ok-now.ensures ∙ ap (λ (vs : Values). outputs ++ vs) c.as_slice.ensures.value) in
    let count = c.in_ok-now.now.ok.0 in
    omega (arith, few, count)

pub record-requires-2-clause-few : goal.record-requires-2-clause-few
record-requires-2-clause-few c =
    let few : length c.in_ok-now-2.now.items < 2 ^ 32 =
    values_few c.args.job.now.design.job c.args.net.now c.args.places.now c.loop-cycle.sim no_row c.in_ok-now-2.now.items c.in_ok-registers-2.registers.items c.job.ensures.sound.stages c.requires.places
    refl c.in_ok-registers-2.ensures (c.in_ok-now-2.ensures ∙ ap (λ (vs : Values). no_row ++ vs) c.as_slice-2.ensures.value) in
    let count = c.in_ok-now-2.now.ok.0 in
    omega (arith, few, count)

pub returns : goal.returns
returns c =
    let job = c.args.job.now.design.job in
    let net = c.args.net.now in
    let n = c.args.count in
    let vals = values_at job (own_run job n) in
    let kept = c.loop-cycle.invariant in
    let over = c.loop-cycle-test.false in
    let within = c.loop-cycle.auto.cycle-end in
    let end : c.loop-cycle.cycle ≡ n = omega (arith, over, within) in
    let recorded : HasRecorded vals n n c.loop-cycle.recorder = subst (λ (m : ℕ). HasRecorded vals n m c.loop-cycle.recorder) end kept.recorded in
    let sim : c.loop-cycle.sim ≡ after_cycles job net n =
    kept.sim ∙ ap (after_cycles job net) end in
    let registers_are : c.in_ok-registers-2.registers.items ≡ shown_at (after_cycles job net n) c.args.places.now =
    c.in_ok-registers-2.ensures ∙ ap (λ (s : Running). shown_at s c.args.places.now) sim in
    let now_is : c.in_ok-now-2.now.items ≡ vals n =
    c.in_ok-now-2.ensures
    ∙ ap (λ (vs : Values). no_row ++ vs) (c.as_slice-2.ensures.value ∙ registers_are)
    ∙ values_behind_all job net n c.requires.shows (c.a_job_gives_its_own_inputs.ensures.seen n) (c.a_job_gives_its_own_inputs.ensures.quiet n) c.args.places.now c.requires.places in
    let old = subst (λ (m : ℕ). HasRecorded vals m n c.loop-cycle.recorder) (sym recorded.last) recorded in
    let after : HasRecorded vals n (n + 1) c.record-2.new.self =
    subst (λ (m : ℕ). HasRecorded vals m (n + 1) c.record-2.new.self) recorded.last (c.in_ok-record-2.ensures vals n old now_is) in
    c.into_moments.ensures ∙ after.moments ∙ ap (λ (m : ℕ). moments_before vals n m) (let e : n + 1 ≡ suc n = omega arith in e)
