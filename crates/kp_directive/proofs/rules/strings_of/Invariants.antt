use Rattle.std.proofs.Common.{◌≡◌, None, drop, map, take}
use Rattle.std.specs.Prelude.{string_bytes}
use Rattle.kp_base.specs.Lines.{piece_of}
use Rattle.kp_directive.specs.Faults.{no_name}
use Rattle.kp_directive.proofs.rules.strings_of.Given as goal

abbrev pub invariant-loop-name : goal.invariant-loop-name
invariant-loop-name l =
    (map string_bytes l.strings.items ≡ map (λ name. name.bytes) (map (piece_of l.text) (take l.name-index l.names)))
    × (no_name (map (piece_of l.text) (drop l.name-index l.names)) ≡ None)
