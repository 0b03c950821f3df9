use Rattle.std.proofs.Common.{◌≤◌, arith}
use Rattle.kp_run.proofs.Machines.{stages_fit}
use Rattle.kp_watch.proofs.lockstep.tables_of.Goals as goal

pub overflow_add-machines : goal.overflow_add-machines
overflow_add-machines c =
    let few : c.job.result.now.stages.value ≤ 12 = rw c.job.ensures.job (stages_fit c.args.job.now.design.job c.job.ensures.sound.stages).1 in
    omega (arith, few)
