use Rattle.std.proofs.Common.{◌<◌, arith, length}
use Rattle.kp_machine.specs.Slots.{targets_of}
use Rattle.kp_implements.specs.Naming.{value_shown}
use Rattle.kp_watch.{specs.inner.Machines.due_by, proofs.Comparing.target_more, proofs.Comparing.first_in}
use Rattle.kp_run.proofs.Placing.{few_targets, as_many}
use Rattle.kp_watch.proofs.changes.difference_after.Goals as goal

pub overflow_cast-t : goal.overflow_cast-t
overflow_cast-t c =
    let job = c.args.job.now.design.job in
    let many = as_many job c.args.both.now.sim.net c.args.tables.now.places.items c.requires.places in
    let few = few_targets job.decls in
    omega (arith, many, few, c.args.job.now.few, c.loop-t-test.true, c.len-t-end.ensures)

pub difference_for-requires-clause-target : goal.difference_for-requires-clause-target
difference_for-requires-clause-target c =
    let many = as_many c.args.job.now.design.job c.args.both.now.sim.net c.args.tables.now.places.items c.requires.places in
    omega (arith, many, c.loop-t-test.true, c.len-t-end.ensures)

pub returns-in-Some : goal.returns-in-Some
returns-in-Some c =
    let job = c.args.job.now.design.job in
    let both = c.args.both.now in
    first_in job (value_shown job both.sim.net both.sim.state) (due_by job both.machines.items) c.loop-t.t c.loop-t.invariant c.args.cycle c.in-Some.difference c.in-Some.ensures

pub loop-t-preserved : goal.loop-t-preserved
loop-t-preserved c =
    let job = c.args.job.now.design.job in
    let both = c.args.both.now in
    let agree = rw c.in_default.is at c.difference_for.ensures in
    target_more job (value_shown job both.sim.net both.sim.state) (due_by job both.machines.items) c.loop-t.t c.loop-t.invariant agree
