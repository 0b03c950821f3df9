use Rattle.std.proofs.Common.{◌≡◌, ◌∙◌, ℕ, sym, subst, arith, false}
use Rattle.kp_cycle.specs.Steps.{Running, SamplesFit, given}
use Rattle.kp_image.specs.{Feeds.row_in, Spans.word_in}
use Rattle.kp_net.specs.Netlist.{Input}
use Rattle.kp_run.{specs.Cycles.input_at, proofs.Given.feeds_few, proofs.Given.rows_fed, proofs.Samples.fits_ports}
use Rattle.kp_stalls_run.{specs.inner.Replays.run_at, proofs.Values.stepped}
use Rattle.kp_stalls_run.proofs.guesses.go_to.Goals as goal

pub step-requires-clause-room : goal.step-requires-clause-room
step-requires-clause-room c = c.loop-cycle.invariant.room ∙ c.requires.room

pub step-requires-clause-few : goal.step-requires-clause-few
step-requires-clause-few c =
    let accepted = c.args.job.now in
    let few = feeds_few accepted.design.job accepted.sections.inputs c.job-kept.ensures.sound.names accepted.unbroken accepted.inputs accepted.few in
    let room = c.loop-cycle.invariant.room ∙ c.requires.room in
    omega (arith, few, room)

pub step-requires-clause-fits : goal.step-requires-clause-fits
step-requires-clause-fits c =
    let accepted = c.args.job.now in
    let row = row_in accepted.sections.inputs c.loop-cycle.cycle in
    subst (λ (s : Running). SamplesFit s.net row) (sym c.loop-cycle.invariant.at)
    (fits_ports accepted.design.job c.args.sim.now.net row c.requires.shows.of_job.samples
    (rows_fed accepted.design.job accepted.sections.inputs c.job-kept.ensures.sound.names accepted.unbroken accepted.inputs c.loop-cycle.cycle))

pub loop-cycle-preserved : goal.loop-cycle-preserved
loop-cycle-preserved c =
    let accepted = c.args.job.now in
    let n = c.loop-cycle.cycle in
    let taken : Input = given (word_in accepted.sections.stalls n) false (row_in accepted.sections.inputs n) in
    let is : taken ≡ input_at accepted.design.job n = λ i. given (accepted.stalls i n) false (accepted.inputs i n) in
    record {
      at = stepped accepted.design.job c.args.sim.now.net n taken c.loop-cycle.sim c.step.new.sim is c.loop-cycle.invariant.at c.step.ensures.state;
      room = c.step.ensures.room ∙ c.loop-cycle.invariant.room;
    }

pub returns-clause-at : goal.returns-clause-at
returns-clause-at c =
    let within = c.start_for-start.ensures.within in
    let all : c.loop-cycle.cycle ≡ c.args.to = (let past = c.loop-cycle-test.false in let end = c.loop-cycle.auto.cycle-end in omega (arith, past, end, within)) in
    subst (λ (n : ℕ). c.loop-cycle.sim ≡ run_at c.args.job.now.design.job c.args.sim.now.net n) all c.loop-cycle.invariant.at
