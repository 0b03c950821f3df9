use Rattle.std.proofs.Common.{◌≤◌, arith}
use Rattle.kp_run.proofs.Machines.{stages_fit}
use Rattle.kp_run.proofs.cycles.monitor_of.Goals as goal

pub overflow_cast-stages : goal.overflow_cast-stages
overflow_cast-stages c =
    let few : c.job.result.now.stages.value ≤ 12 = rw c.job.ensures.job (stages_fit c.args.design.now.job c.job.ensures.sound.stages).1 in
    omega (arith, few)

pub open-requires-clause-some : goal.open-requires-clause-some
open-requires-clause-some c = rw c.job.ensures.job (stages_fit c.args.design.now.job c.job.ensures.sound.stages).0

pub open-requires-clause-few : goal.open-requires-clause-few
open-requires-clause-few c = rw c.job.ensures.job (stages_fit c.args.design.now.job c.job.ensures.sound.stages).1

pub returns-clause-stages : goal.returns-clause-stages
returns-clause-stages c = rw c.job.ensures.job at c.open.ensures.stages
