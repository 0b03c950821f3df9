use Rattle.std.proofs.Common.{◌≡◌, ◌-◌, arith}
use Rattle.kp_run.proofs.Machines.{stages_fit}
use Rattle.kp_until_run.proofs.Reaching.{agrees, counted}
use Rattle.kp_until_run.proofs.race.Race.retired.Goals as goal

pub overflow_sub-stages : goal.overflow_sub-stages
overflow_sub-stages c =
    let some = (stages_fit c.args.job.now.design.job c.job-kept.ensures.sound.stages).0 in
    omega (arith, c.stages.ensures.stages, c.requires.at.rows.stages, some)

pub passed-requires : goal.passed-requires
passed-requires c =
    let some = (stages_fit c.args.job.now.design.job c.job-kept.ensures.sound.stages).0 in
    omega (arith, c.stages.ensures.stages, c.requires.at.rows.stages, some)

pub returns : goal.returns
returns c =
    let job = c.args.job.now.design.job in
    let net = c.args._net.now in
    let at = c.requires.at in
    let agree = agrees job net c.job-kept.ensures.sound.names c.args.job.now.unbroken c.requires.shows in
    let last : c.stages.result - 1 ≡ job.stages.value - 1 = omega (arith, c.stages.ensures.stages, at.rows.stages) in
    counted job net agree c.args._cycle c.passed.result (c.stages.result - 1) c.args.self.now.monitor last at.rows c.passed.ensures.seen
