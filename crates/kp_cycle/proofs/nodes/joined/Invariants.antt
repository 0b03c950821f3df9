use Rattle.std.{proofs.Common.◌≡◌, proofs.Common.map, proofs.Common.take, specs.List.sum_by}
use Rattle.kp_bits.specs.{Word.IsWord, Operators.joined_of}
use Rattle.kp_net.specs.Widths.{wide}
use Rattle.kp_cycle_plan.specs.Storage.{seen}
use Rattle.kp_cycle.proofs.nodes.joined.Given as goal

abbrev pub invariant-loop-i : goal.invariant-loop-i
invariant-loop-i l = IsWord l.word × (l.word ≡ joined_of (map (λ a. seen l.net.nodes l.memory.nodes a.0) (take l.i l.parts))) × (l.word.width ≡ sum_by (λ a. wide l.net.nodes a.0) (take l.i l.parts))
