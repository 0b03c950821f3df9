use Rattle.std.proofs.Common.{◌≡◌, ◌∙◌, [], length, false, refl, ap, sym, subst, arith}
use Rattle.kp_cycle.specs.Steps.{Running, SamplesFit, given, written_in}
use Rattle.kp_image.specs.{Feeds.row_in, Spans.word_in}
use Rattle.kp_net.specs.Netlist.{State, last_of, row_of, state_after}
use Rattle.kp_run.{specs.Cycles.input_at, specs.Cycles.inputs_to, proofs.Given.feeds_few, proofs.Given.rows_fed, proofs.Samples.fits_ports, proofs.Steps.given_at, proofs.Steps.state_next}
use Rattle.kp_until_run.proofs.race.run_cycle.Goals as goal

pub fill-requires-clause-few : goal.fill-requires-clause-few
fill-requires-clause-few c =
    let job = c.args.job.now in
    let few = feeds_few job.design.job job.sections.inputs c.job-kept.ensures.sound.names job.unbroken job.inputs job.few in
    omega (arith, few, c.requires.room)

pub step_noting-requires-clause-samples : goal.step_noting-requires-clause-samples
step_noting-requires-clause-samples c =
    let job = c.args.job.now in
    let net = c.args.sim.now.net in
    subst (SamplesFit net) (sym c.fill.ensures)
    (fits_ports job.design.job net (row_in job.sections.inputs c.from-now.result) c.requires.samples
    (rows_fed job.design.job job.sections.inputs c.job-kept.ensures.sound.names job.unbroken job.inputs c.from-now.result))

pub returns-clause-row : goal.returns-clause-row
returns-clause-row c net is =
    let job = c.args.job.now in
    let at =
    (λ i. given (c.word-stalls.ensures i) false (c.fill.ensures i))
    ∙ given_at job.design.job (word_in job.sections.stalls) (row_in job.sections.inputs) c.from-now.result c.args.cycle job.stalls job.inputs c.from-now.ensures in
    c.step_noting.ensures.row ∙ (λ i. row_of (is i).net (at i) (is i).state)

pub returns-clause-sim : goal.returns-clause-sim
returns-clause-sim c net is =
    let job = c.args.job.now in
    let n = c.args.cycle in
    let at =
    (λ i. given (c.word-stalls.ensures i) false (c.fill.ensures i))
    ∙ given_at job.design.job (word_in job.sections.stalls) (row_in job.sections.inputs) c.from-now.result n job.stalls job.inputs c.from-now.ensures in
    c.step_noting.ensures.state
    ∙ (λ i. record (is i) { state = state_after (is i).net (at i) (is i).state })
    ∙ ap (λ (st : State). record { net = net; state = st; slots = [] }) (state_next job.design.job net n (input_at job.design.job n) refl (last_of net (inputs_to job.design.job n)) refl)

pub returns-clause-noted : goal.returns-clause-noted
returns-clause-noted c net is =
    let job = c.args.job.now in
    let at =
    (λ i. given (c.word-stalls.ensures i) false (c.fill.ensures i))
    ∙ given_at job.design.job (word_in job.sections.stalls) (row_in job.sections.inputs) c.from-now.result c.args.cycle job.stalls job.inputs c.from-now.ensures in
    let files : length c.args.sim.now.net.parts.files ≡ length net.parts.files = ap (λ (s : Running). length s.net.parts.files) is in
    record {
      count = c.step_noting.ensures.room ∙ files;
      each = λ f low. c.step_noting.ensures.written f (omega (arith, low, files)) ∙ (λ i. written_in (is i).net (at i) (is i).state f);
    }
