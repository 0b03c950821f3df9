use Rattle.std.{proofs.Common.◌≡◌, proofs.Common.◌<◌, proofs.Common.◌≤◌, proofs.Common.length, proofs.Common.take, proofs.Common.All, specs.List.sum_by}
use Rattle.kp_net.specs.Widths.{wide}
use Rattle.kp_test_circuits.proofs.gates.width_of_row.Given as goal

abbrev pub invariant-loop-part : goal.invariant-loop-part
invariant-loop-part l =
    (l.sum ≤ 64) × All (λ a. a.0 < length l.pool.nodes) (take l.part-index l.parts) × (sum_by (λ a. wide l.pool.nodes a.0) (take l.part-index l.parts) ≡ l.sum)
