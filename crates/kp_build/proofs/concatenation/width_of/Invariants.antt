use Rattle.std.{proofs.Common.◌≡◌, proofs.Common.◌≤◌, proofs.Common.take, specs.List.sum_by}
use Rattle.kp_net.specs.Widths.{wide}
use Rattle.kp_build.proofs.concatenation.width_of.Given as goal

abbrev pub invariant-loop-part : goal.invariant-loop-part
invariant-loop-part l = (l.width ≡ sum_by (λ n. wide l.pool.nodes n.0) (take l.part-index l.parts)) × (l.part-index ≤ l.width)
