use Rattle.kp_vread_rules.proofs.Sizing.{sizes_after}
use Rattle.kp_vread_rules.proofs.sizes.Sizes.put.Goals as goal

pub returns : goal.returns
returns c =
    sizes_after c.self.inside.table.entries c.insert.new.self.entries c.new.result c.args.name.now (record { high = c.args.high; last = c.args.last }) c.args.self.now
    (λ n. c.in_ok-insert.ensures.updates.0 n) c.new.ensures c.self.view_is
