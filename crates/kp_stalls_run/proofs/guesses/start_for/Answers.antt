use Rattle.kp_stalls_run.proofs.Values.{has_saved, restored}
use Rattle.kp_stalls_run.proofs.guesses.start_for.Goals as goal

pub load-requires : goal.load-requires
load-requires c = has_saved c.args._job.now.design.job c.args.from c.args.sim.now c.requires

pub returns-then-to-from-clause-at : goal.returns-then-to-from-clause-at
returns-then-to-from-clause-at c = restored c.args._job.now.design.job c.args.from c.args.sim.now c.load.new.self c.requires c.load.ensures.state c.load.ensures.others

pub returns-else-to-from-clause-at : goal.returns-else-to-from-clause-at
returns-else-to-from-clause-at c = c.requires

pub returns-else-to-from-clause-within : goal.returns-else-to-from-clause-within
returns-else-to-from-clause-within c = c.if-to-from.false
