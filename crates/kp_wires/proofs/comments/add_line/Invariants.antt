use Rattle.std.{proofs.Common.◌≡◌, proofs.Common.◌++◌, proofs.Common.◌∷◌, proofs.Common.[], proofs.Common.take, specs.Prelude.flat_map, specs.Prelude.if◌then◌else◌}
use Rattle.kp_core_ports.specs.Core.{is_in_line}
use Rattle.kp_wires.proofs.comments.add_line.Given as goal

abbrev pub invariant-loop-byte : goal.invariant-loop-byte
invariant-loop-byte l = l.out.items ≡ l.fn.out.items ++ flat_map (λ b. if is_in_line b then b ∷ [] else []) (take l.byte-index l.note)
