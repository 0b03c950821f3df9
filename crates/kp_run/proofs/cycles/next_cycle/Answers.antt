use Rattle.std.proofs.Common.{◌∙◌, [], refl, ap, arith}
use Rattle.kp_image.specs.{Spans.word_in, Feeds.row_in}
use Rattle.kp_net.specs.Netlist.{State, last_of, row_of, state_after}
use Rattle.kp_run.{specs.Cycles.inputs_to, specs.Cycles.input_at, proofs.Steps.given_at, proofs.Steps.state_next, proofs.Given.rows_fed, proofs.Given.feeds_few}
use Rattle.kp_run.proofs.Samples.{fits_ports}
use Rattle.kp_run.proofs.cycles.next_cycle.Goals as goal

pub step-requires-clause-few : goal.step-requires-clause-few
step-requires-clause-few c =
    let job = c.args.job.now in
    let few = feeds_few job.design.job job.sections.inputs c.job-kept.ensures.sound.names job.unbroken job.inputs job.few in
    omega (arith, few, c.requires.room)

pub step-requires-clause-fits : goal.step-requires-clause-fits
step-requires-clause-fits c =
    let job = c.args.job.now in
    fits_ports job.design.job c.args.sim.now.net (row_in job.sections.inputs c.from.result) c.requires.samples
    (rows_fed job.design.job job.sections.inputs c.job-kept.ensures.sound.names job.unbroken job.inputs c.from.result)

pub returns-clause-row : goal.returns-clause-row
returns-clause-row c net is =
    let job = c.args.job.now in
    let at = given_at job.design.job (word_in job.sections.stalls) (row_in job.sections.inputs) c.from.result c.args.cycle job.stalls job.inputs c.from.ensures in
    c.step.ensures.row ∙ (λ i. row_of (is i).net (at i) (is i).state)

pub returns-clause-sim : goal.returns-clause-sim
returns-clause-sim c net is =
    let job = c.args.job.now in
    let n = c.args.cycle in
    let at = given_at job.design.job (word_in job.sections.stalls) (row_in job.sections.inputs) c.from.result n job.stalls job.inputs c.from.ensures in
    c.step.ensures.state
    ∙ (λ i. record (is i) { state = state_after (is i).net (at i) (is i).state })
    ∙ ap (λ (st : State). record { net = net; state = st; slots = [] }) (state_next job.design.job net n (input_at job.design.job n) refl (last_of net (inputs_to job.design.job n)) refl)
