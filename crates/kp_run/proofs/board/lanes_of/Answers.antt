use Rattle.kp_run.{specs.Columns.AreColumns, proofs.Boards.board_is, proofs.Gathering.rows_fit_taken, proofs.Given.rows_given}
use Rattle.kp_run.proofs.board.lanes_of.Goals as goal

pub machines_after-requires-clause-samples : goal.machines_after-requires-clause-samples
machines_after-requires-clause-samples c i =
    let accepted = c.args.job.now in
    let job = accepted.design.job in
    let sound = c.job-kept.ensures.sound in
    let given = rows_given job accepted.sections.inputs sound.names accepted.unbroken accepted.inputs in
    let are : AreColumns job c.args.cycles.now.rows.items c.in_ok-columns.columns.items = rw c.as_slice.ensures.value at c.in_ok-columns.ensures in
    rw c.as_slice-2.ensures.value (rows_fit_taken job c.args.cycles.now.rows.items c.in_ok-columns.columns.items given are i)

pub returns : goal.returns
returns c =
    let accepted = c.args.job.now in
    let job = accepted.design.job in
    let rows = c.args.cycles.now.rows.items in
    let sound = c.job-kept.ensures.sound in
    let given = rows_given job accepted.sections.inputs sound.names accepted.unbroken accepted.inputs in
    let are : AreColumns job rows c.in_ok-columns.columns.items = rw c.as_slice.ensures.value at c.in_ok-columns.ensures in
    let ran = (rw c.as_slice-2.ensures.value at c.in_ok-machines.ensures.run) rows c.requires.seen in
    board_is job rows c.in_ok-columns.columns.items c.in_ok-machines.machines.items c.in_ok-homes.homes.items c.a_design_is_accepted.ensures given are ran c.in_ok-homes.ensures
