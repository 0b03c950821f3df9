use Rattle.std.proofs.Common.{◌≡◌, ◌∙◌, None, sym}
use Rattle.kp_design.specs.Fits.{port_at}
use Rattle.kp_synth_next.proofs.Writes.{port_none}
use Rattle.kp_synth_next.proofs.write_ports.port_of.Goals as goal

pub returns-in-None-clause-is : goal.returns-in-None-clause-is
returns-in-None-clause-is c =
    let e : port_at c.args.layout.now c.args.target ≡ None = sym c.port.ensures.port ∙ c.in-None.is in
    port_none _ c.args.pool.now _ e
