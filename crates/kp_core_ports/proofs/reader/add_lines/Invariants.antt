use Rattle.std.proofs.Common.{◌≡◌, [], drop, map}
use Rattle.kp_base.specs.Lines.{piece_of}
use Rattle.kp_core_ports.specs.Ports.{ports_from, AllExist}
use Rattle.kp_core_ports.proofs.reader.add_lines.Given as goal

abbrev pub invariant-loop-line : goal.invariant-loop-line
invariant-loop-line l = record {
  rest : ports_from l.layout l.text l.ports.items (map (piece_of l.text) (drop l.line-index l.lines)) ≡ ports_from l.layout l.text [] (map (piece_of l.text) l.lines);
  exist : AllExist l.layout l.ports.items;
}
