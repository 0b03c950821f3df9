use Rattle.kp_seq.specs.Running.{state}
use Rattle.kp_implements.specs.Naming.{value_shown}
use Rattle.kp_watch.proofs.Comparing.{first_at}
use Rattle.kp_watch.proofs.compare.difference_at.Goals as goal

pub returns-in-Some : goal.returns-in-Some
returns-in-Some c =
    let job = c.args.machine.now.job in
    let t = c.args.t in
    first_at job (value_shown job c.args.sim.now.net c.args.sim.now.state t) (state c.args.machine.now t) c.args.cycle t c.loop-address.address c.in-Some.difference c.in-Some.ensures c.loop-address.invariant
