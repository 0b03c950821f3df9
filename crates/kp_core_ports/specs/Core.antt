-- THE MODULE WITH PORTS: the canonical text of a netlist, with the ports at the end of its header, and the lines for them before its end.
use Rattle.std.specs.Prelude.{ℕ, ◌-◌, ◌==◌, min, not, Bool, List, [], ◌∷◌, ◌++◌, length, take, drop, flat_map, slice_range, codes}
use Rattle.kp_base.specs.Characters.{run_length}
use Rattle.kp_ast.specs.declared.tree.Job.{Job}
use Rattle.kp_net.specs.Netlist.{Net}
use Rattle.kp_vlog.specs.Canon.{canon}
use Rattle.kp_core_ports.specs.{declared.port.Port.Port, PortTexts.header_text, PortTexts.line_text}

abbrev pub is_in_line : ℕ → Bool
is_in_line byte = not (byte == 10)

-- the place of the last line of a module, `endmodule`
abbrev pub last_line : List ℕ → ℕ
last_line text = length text - 10

-- the place of the `);` that ends its first line
abbrev pub header_end : List ℕ → ℕ
header_end text = min (run_length is_in_line text - 2) (last_line text)

-- a module with ports at the end of its header, and lines before its last one
abbrev pub with_added : List ℕ → List ℕ → List ℕ → List ℕ
with_added text ports lines =
    take (header_end text) text ++ (ports ++ (slice_range text (header_end text) (last_line text) ++ (lines ++ drop (last_line text) text)))

-- the ports in the header
unfoldable pub header_ports : Job → List Port → List ℕ
header_ports job ports = flat_map (header_text job) ports

-- the lines, under a comment
unfoldable pub comment : List ℕ
comment = codes "  // The ports that were asked for. All other lines are those of kp pipe.\n"

abbrev pub lines_under : Net → Job → List Port → List ℕ
lines_under net job ports = comment ++ flat_map (line_text net job) ports

-- or nothing, if no ports are asked for
abbrev pub added_lines : Net → Job → List Port → List ℕ
added_lines net job [] = []
added_lines net job (p ∷ ps) = lines_under net job (p ∷ ps)

-- A text of a netlist of a job, with these ports, and more lines after those for them.
abbrev pub with_ports : Net → Job → List Port → List ℕ → List ℕ → List ℕ
with_ports net job ports text more = with_added text (header_ports job ports) (added_lines net job ports ++ more)

-- The canonical one.
unfoldable pub core_text : Net → Job → List Port → List ℕ → List ℕ
core_text net job ports more = with_ports net job ports (canon net) more
