use Rattle.std.proofs.{Common.◌∙◌, Common.ap, Common.arith, lemmas.Result.IfOk-weaker}
use Rattle.kp_run.specs.Cycles.{inputs_to}
use Rattle.kp_debug.proofs.Gathering.{samples_fit, given_are, few_cycles}
use Rattle.kp_debug.proofs.inspection.session_of.Goals as goal

pub open-requires-clause-shows : goal.open-requires-clause-shows
open-requires-clause-shows c =
    let outputs = c.requires.outputs in
    record { ext = outputs.few; full = outputs.full; ue = outputs.ue; back = outputs.back }

pub open-requires-clause-few : goal.open-requires-clause-few
open-requires-clause-few c = omega (arith, few_cycles, c.in_ok-exts.ensures.many, c.all_cycles-count.ensures)

pub open-requires-clause-fits : goal.open-requires-clause-fits
open-requires-clause-fits c =
    let job = c.args.job.now in
    samples_fit job.design.job c.args.net.now job.sections.inputs job.sections.stalls c.requires.of_job.samples c.job-kept.ensures.sound.names job.unbroken job.inputs job.stalls
    c.all_cycles-count.result _ _ c.in_ok-exts.ensures.many c.in_ok-samples.ensures

pub returns : goal.returns
returns c =
    let job = c.args.job.now in
    let net = c.args.net.now in
    let same =
    given_are job.design.job net job.sections.inputs job.sections.stalls c.requires.of_job.samples c.job-kept.ensures.sound.names job.unbroken job.inputs job.stalls
    c.all_cycles-count.result _ _ c.in_ok-exts.ensures.words c.in_ok-samples.ensures
    ∙ ap (inputs_to job.design.job) c.all_cycles-count.ensures in
    IfOk-weaker c.open.result _ _ (λ s is. is ∙ (λ i. record { net = net; inputs = same i; cycle = 0 })) c.open.ensures
