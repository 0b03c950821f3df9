use Rattle.kp_vread_rules.proofs.Sizing.{all_sized}
use Rattle.kp_vread_rules.proofs.sizes.Sizes.new.Goals as goal

pub returns : goal.returns
returns c =
    all_sized c.args.whole.now c.as_slice.result.now c.as_slice-2.result.now c.empty-sizes.result c.items.new.self c.port.new.self c.port-2.new.self c.port-3.new.self c.ports.new.self
    c.port-4.new.self c.as_slice.ensures c.as_slice-2.ensures c.empty-sizes.ensures c.in_ok-items.ensures c.in_ok-port.ensures c.in_ok-port-2.ensures c.in_ok-port-3.ensures
    c.in_ok-ports.ensures c.in_ok-port-4.ensures
