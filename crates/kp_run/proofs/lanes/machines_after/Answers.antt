use Rattle.std.proofs.Common.{◌≡◌, ◌∙◌, ℕ, List, ◌<◌, ◌≤◌, sym, ap, subst, arith, length, ◌-◌, ◌+◌}
use Rattle.std.proofs.lemmas.List.{length-map}
use Rattle.kp_bits.specs.Word.{Word}
use Rattle.kp_machine.specs.{Machine.values_in, Slots.sample_stages}
use Rattle.kp_run.specs.{Columns.Taken, Columns.word_taken, Columns.row_taken, inner.Lanes.HaveRunFrom}
use Rattle.kp_run.proofs.{Given.feeds_many, Given.as_feeds, Samples.many}
use Rattle.kp_run.proofs.Machines.{opened_is, none_counted, lanes_begin, stage_counted, lanes_before, first_runs, have_run}
use Rattle.kp_run.proofs.lanes.machines_after.Goals as goal

pub loop-k-init : goal.loop-k-init
loop-k-init c =
    let accepted = c.args.job.now in
    let job = accepted.design.job in
    let given : ℕ → ℕ → ℕ = λ i. values_in (row_taken c.args.columns.now i) in
    let sound = c.job-kept.ensures.sound in
    let row = row_taken c.args.columns.now 0 in
    let taken : length row ≡ length (sample_stages job.decls) = many job.decls row (c.requires.samples 0) in
    let wide : length row ≡ length c.args.columns.now = length-map c.args.columns.now (λ (x : Taken). word_taken x 0) in
    let fed = feeds_many job accepted.sections.inputs sound.names accepted.unbroken accepted.inputs in
    let read : length c.in_ok-kept.kept.items ≡ length accepted.sections.inputs = ap (λ (l : List Word). length l) c.in_ok-kept.ensures ∙ as_feeds accepted.sections.inputs 0 in
    let stages : c.stages-k.result ≡ job.stages.value = c.stages-k.ensures.stages ∙ c.requires.stages in (
      rw (c.in_ok-push.ensures.items) (rw c.new-machines.ensures.items (lanes_begin job given c.args.monitor.now.passed c.stages-k.result c.in_ok-opened.field-0 stages c.in_ok-opened.ensures.job
          (c.in_ok-opened.ensures.state ∙ opened_is job given))),
      none_counted job given c.args.monitor.now.passed c.stages-k.result stages,
      rw c.as_mut_slice-room.ensures.value (read ∙ fed ∙ sym taken ∙ wide),
    )

pub loop-k-preserved : goal.loop-k-preserved
loop-k-preserved c =
    let job = c.args.job.now.design.job in
    let given : ℕ → ℕ → ℕ = λ i. values_in (row_taken c.args.columns.now i) in
    let counts = c.args.monitor.now.passed in
    let kept = c.loop-k.invariant in
    let k = c.loop-k.k - 1 in
    let next : c.loop-k.k ≡ k + 1 = omega (arith, c.loop-k-test.true) in
    let below : k < job.stages.value = omega (arith, c.loop-k-test.true, c.loop-k.auto.k, c.stages-k.ensures.stages, c.requires.stages) in
    rw (c.in_ok-insert.ensures.items) (
      lanes_before job given counts k c.loop-k.k c.passed-count.result c.in_ok-machine.machine c.loop-k.machines.items next below c.passed-count.ensures.kept c.in_ok-machine.ensures.job
          c.in_ok-machine.ensures.state kept.0,
      stage_counted job given counts k c.passed-count.result below c.passed-count.ensures.kept,
      c.in_ok-machine.ensures.room ∙ kept.2,
    )

pub returns-clause-run : goal.returns-clause-run
returns-clause-run c rows seen =
    let job = c.args.job.now.design.job in
    let given : ℕ → ℕ → ℕ = λ i. values_in (row_taken c.args.columns.now i) in
    let counts = c.args.monitor.now.passed in
    let machines = c.loop-k.machines.items in
    let end : c.loop-k.k ≡ 0 = omega (arith, c.loop-k-test.false) in
    let all : HaveRunFrom job given counts 0 machines = subst (λ k. HaveRunFrom job given counts k machines) end c.loop-k.invariant.0 in
    have_run job given rows c.args.monitor.now machines c.requires.stages seen all

pub returns-clause-jobs : goal.returns-clause-jobs
returns-clause-jobs c = c.loop-k.invariant.0.jobs

pub machine_after-requires-clause-state : goal.machine_after-requires-clause-state
machine_after-requires-clause-state c =
    let job = c.args.job.now.design.job in
    let kept = c.loop-k.invariant in
    let last = c.index.result.now in
    let within : c.loop-k.k ≤ job.stages.value = omega (arith, c.loop-k.auto.k, c.stages-k.ensures.stages, c.requires.stages) in
    (first_runs job (λ i. values_in (row_taken c.args.columns.now i)) c.args.monitor.now.passed c.loop-k.k c.loop-k.ran last c.loop-k.machines.items within kept.0 kept.1 c.index.ensures).1
