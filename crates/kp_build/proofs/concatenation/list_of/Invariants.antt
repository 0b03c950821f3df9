use Rattle.std.proofs.Common.{◌≡◌, ◌∷◌, take}
use Rattle.kp_build.proofs.concatenation.list_of.Given as goal

abbrev pub invariant-loop-node : goal.invariant-loop-node
invariant-loop-node l = l.all.items ≡ l.fn.first ∷ take l.node-index l.rest
