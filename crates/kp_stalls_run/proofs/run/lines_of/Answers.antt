use Rattle.std.proofs.Common.{◌∙◌, ◌≤◌, List, length, get_or, ap, arith}
use Rattle.kp_bits.specs.Word.{Word}
use Rattle.kp_image.proofs.Given.{starts}
use Rattle.kp_run.proofs.Machines.{stages_fit}
use Rattle.kp_sched.specs.Rows.{bit_of}
use Rattle.kp_stalls_run.proofs.Taking.{lines_taken, room_fits, samples_fit}
use Rattle.kp_stalls_run.proofs.run.lines_of.Goals as goal

pub overflow_cast-n : goal.overflow_cast-n
overflow_cast-n c =
    let few : c.job-tree.result.now.stages.value ≤ 12 = rw c.job-tree.ensures.job (stages_fit c.args.job.now.design.job c.job-tree.ensures.sound.stages).1 in
    omega (arith, few)

pub fates_of-requires : goal.fates_of-requires
fates_of-requires c = rw c.job-tree.ensures.job (stages_fit c.args.job.now.design.job c.job-tree.ensures.sound.stages).1

pub open-requires-clause-suits : goal.open-requires-clause-suits
open-requires-clause-suits c = rw c.args.job.now.start (starts _ c.job-tree.ensures.sound.names c.args.job.now.unbroken)

pub add_cycles-requires-clause-room : goal.add_cycles-requires-clause-room
add_cycles-requires-clause-room c =
    let accepted = c.args.job.now in
    ap (λ (row : List Word). length row) (c.as_mut_slice.ensures.value ∙ c.in_ok-room.ensures)
    ∙ room_fits accepted.design.job accepted.sections.inputs c.job-tree.ensures.sound.names accepted.unbroken accepted.inputs c.args.rows.now c.in_ok-columns.columns.items c.in_ok-columns.ensures

pub add_cycles-requires-clause-samples : goal.add_cycles-requires-clause-samples
add_cycles-requires-clause-samples c i =
    let accepted = c.args.job.now in
    samples_fit accepted.design.job accepted.sections.inputs c.job-tree.ensures.sound.names accepted.unbroken accepted.inputs c.args.rows.now c.in_ok-columns.columns.items c.in_ok-columns.ensures i

pub returns : goal.returns
returns c =
    let accepted = c.args.job.now in
    (rw c.new-lines.ensures.items at c.in_ok-add_cycles.ensures)
    ∙ lines_taken accepted.design.job accepted.sections.inputs c.job-tree.ensures.sound.names accepted.unbroken accepted.inputs c.args.rows.now c.in_ok-columns.columns.items c.in_ok-columns.ensures
    (λ T. bit_of (get_or c.args.words.now T 0))
