-- The port with a port's name.
use Rattle.std.proofs.Common.{◌≡◌, refl}
use Rattle.kp_vread_rules.specs.{NameFaults.port_of, Ports.port_name, declared.role.PortName.PortName}
use Rattle.kp_vread_rules.specs.declared.role.PortName.TheVariants as ports

pub port_is : (p : PortName) → port_of (port_name p) ≡ p
port_is ports.Clk = refl
port_is ports.Rst = refl
port_is ports.Ext = refl
port_is ports.Full = refl
port_is ports.Ue = refl
port_is ports.Back = refl
