-- Ports, compared.
use Rattle.std.specs.Prelude.{◌==◌, ◌&&◌, Bool}
use Rattle.kp_net.specs.{declared.netlist.Port.Port, Names.same}

-- ports with the same width and the same name
abbrev pub same_port : Port → Port → Bool
same_port x y = (x.width == y.width) && same x.name y.name
