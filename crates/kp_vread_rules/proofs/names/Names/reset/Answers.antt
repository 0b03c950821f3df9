use Rattle.kp_vread_rules.{specs.Tables.found, proofs.Starting.reset_done}
use Rattle.kp_vread_rules.proofs.names.Names.reset.Goals as goal

pub returns-in_ok-starts-in-Some : goal.returns-in_ok-starts-in-Some
returns-in_ok-starts-in-Some c =
    rw c.in-Some.is (reset_done c.values.result c.args.self.now c.values.new.self (found c.in_ok-starts-in-Some.starts) c.args.inits.now c.in-Some.list c.push.new.self
    c.in_ok-push-in-Some.ensures c.in_ok-starts-in-Some.ensures (rw c.as_slice.ensures at c.values.ensures))
