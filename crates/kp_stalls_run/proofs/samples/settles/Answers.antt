use Rattle.std.proofs.Common.{◌∙◌, ℕ, ◌<◌, List, length, ap, sym, arith}
use Rattle.std.specs.Prelude.{◌==◌}
use Rattle.kp_bits.specs.Word.{Word}
use Rattle.kp_machine.specs.Machine.{values_in}
use Rattle.kp_run.{specs.Columns.Taken, specs.Columns.row_taken, specs.Columns.word_taken, proofs.Given.feeds_few, proofs.Given.feeds_many, proofs.Given.row_is}
use Rattle.kp_stalls_run.proofs.Settling.{settles_there, value_in, value_taken}
use Rattle.kp_stalls_run.proofs.samples.settles.Goals as goal

pub overflow_cast-x : goal.overflow_cast-x
overflow_cast-x c =
    let accepted = c.args.job.now in
    let job = accepted.design.job in
    let names = c.job-kept.ensures.sound.names in
    let few = feeds_few job accepted.sections.inputs names accepted.unbroken accepted.inputs accepted.few in
    let many = feeds_many job accepted.sections.inputs names accepted.unbroken accepted.inputs in
    omega (arith, few, many, c.requires.sample, c.requires.columns)

pub value-now-requires : goal.value-now-requires
value-now-requires c =
    let accepted = c.args.job.now in
    let many = feeds_many accepted.design.job accepted.sections.inputs c.job-kept.ensures.sound.names accepted.unbroken accepted.inputs in
    omega (arith, many, c.requires.sample, c.requires.columns)

pub returns : goal.returns
returns c =
    let accepted = c.args.job.now in
    let job = accepted.design.job in
    let columns = c.args.samples.now.columns.items in
    let x = c.args.x in
    let stages = c.args.samples.now.stages.items in
    let there : x < length columns = c.requires.sample in
    let inside : x < length stages = (let a = c.requires.columns in let b = ap (λ (l : List ℕ). length l) c.requires.stages in omega (arith, there, a, b)) in
    let now = value_in _ x c.value-now.result c.value-now.ensures in
    let same = ap (λ (row : List Word). values_in row x) (sym (row_is job accepted.sections.inputs c.job-kept.ensures.sound.names accepted.unbroken accepted.inputs c.args.cycle)) ∙ now in
    let taken = value_taken columns c.args.i x c.index-2.result.now there in
    sym (settles_there job (λ j. values_in (row_taken columns j)) c.args.cycle c.args.k c.args.i x c.index.result.now stages c.requires.stages inside (sym c.index.ensures ∙ c.if-index-k.false)
    ∙ (λ i. (same ∙ sym c.value.ensures.value) i == (taken ∙ ap (λ (y : Taken). (word_taken y c.args.i).value) (sym c.index-2.ensures) ∙ ap (λ (w : Word). w.value) (sym c.word.ensures) ∙ sym c.value-2.ensures.value) i))
