-- The names of the ports that are no samples.
use Rattle.std.specs.Prelude.{ℕ, List, codes}
use Rattle.kp_vread_rules.specs.declared.role.PortName.{PortName}
use Rattle.kp_vread_rules.specs.declared.role.PortName.TheVariants as ports

abbrev pub port_name : PortName → List ℕ
port_name ports.Clk = codes "clk"
port_name ports.Rst = codes "rst"
port_name ports.Ext = codes "ext"
port_name ports.Full = codes "full"
port_name ports.Ue = codes "ue"
port_name ports.Back = codes "back"
