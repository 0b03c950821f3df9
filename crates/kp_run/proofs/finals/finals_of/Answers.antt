use Rattle.std.proofs.Common.{arith}
use Rattle.kp_run.proofs.Placing.{few_targets, as_many}
use Rattle.kp_run.proofs.finals.finals_of.Goals as goal

pub overflow_cast-t : goal.overflow_cast-t
overflow_cast-t c =
    let job = c.args.design.now.job in
    let many = as_many job c.netlist.result.now c.in_ok-places.places.items c.in_ok-places.ensures in
    let few = few_targets job.decls in
    omega (arith, many, few, c.requires.few, c.loop-t-test.true, c.len-t-end.ensures)
