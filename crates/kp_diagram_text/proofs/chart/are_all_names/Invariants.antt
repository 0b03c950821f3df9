use Rattle.std.{proofs.Common.◌≡◌, proofs.Common.true, proofs.Common.map, proofs.Common.take, specs.Prelude.string_bytes, specs.List.list_all}
use Rattle.kp_diagram_text.specs.Charts.{is_name}
use Rattle.kp_diagram_text.proofs.chart.are_all_names.Given as goal

abbrev pub invariant-loop-name : goal.invariant-loop-name
invariant-loop-name l = list_all is_name (map string_bytes (take l.name-index l.names)) ≡ true
