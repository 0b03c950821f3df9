use Rattle.std.proofs.Common.{◌≡◌, ◌*◌, ◌≤◌, false, fold, take, length}
use Rattle.std.specs.Prelude.{flat_map}
use Rattle.kp_depth.specs.Times.{input, joined, known_time, no_chain}
use Rattle.kp_depth.proofs.time.of_parts.Given as goal

abbrev pub invariant-loop-part : goal.invariant-loop-part
invariant-loop-part l = (l.chain ≡ fold (joined (known_time l.known)) no_chain (flat_map (input l.nodes false) (take l.part-index l.parts)))
    × (l.chain.count ≤ 127) × (l.chain.latest ≤ 65536 * length l.known)
