use Rattle.std.proofs.Common.{◌∙◌, length}
use Rattle.kp_seq.proofs.Stored.{ports_turn}
use Rattle.kp_seq.proofs.tables.ports.Goals as goal

pub loop-t-preserved : goal.loop-t-preserved
loop-t-preserved c =
    ports_turn c.args.decls.now c.args.targets.now c.args.pipes.now c.loop-t.t (length c.args.targets.now) c.loop-t.ports.items c.push.new.self.items c.port_to.result c.loop-t-test.true c.port_to.ensures c.in_ok-push.ensures.items
    ∙ c.loop-t.invariant
