use Rattle.kp_synth_next.proofs.Writes.{port_some}
use Rattle.kp_synth_registers.proofs.Growth.{ready_kept}
use Rattle.kp_synth_next.proofs.write_ports.write_port.Goals as goal

pub address_of-address-requires-clause-ready : goal.address_of-address-requires-clause-ready
address_of-address-requires-clause-ready c = ready_kept _ _ _ _ _ c.write_of-write.ensures.grown.kept c.requires.ready

pub returns-clause-is : goal.returns-clause-is
returns-clause-is c =
    port_some _ _ _ _ _ _ c.args.port c.write_of-write.result.enabled c.write_of-write.result.value c.address_of-address.result c.requires.port c.address_of-address.ensures.grown.kept
    c.write_of-write.ensures.enabled c.write_of-write.ensures.value c.write_of-write.ensures.is_test c.write_of-write.ensures.gives c.address_of-address.ensures.gives
