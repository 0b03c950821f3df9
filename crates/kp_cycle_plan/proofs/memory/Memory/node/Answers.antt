use Rattle.std.proofs.Common.{ap, length, arith}
use Rattle.kp_region.proofs.Spans.{span_length}
use Rattle.kp_cycle_plan.specs.Storage.{Stored}
use Rattle.kp_cycle_plan.proofs.memory.Memory.node.Goals as goal

pub get-requires-clause-within : goal.get-requires-clause-within
get-requires-clause-within c = omega (arith, c.self.invariant.1)

pub get-requires-clause-in_span : goal.get-requires-clause-in_span
get-requires-clause-in_span c =
    let m = c.self.inside in
    omega (arith, c.requires, ap (λ (x : Stored). length x.nodes) c.self.view_is, span_length m.region m.nodes (omega (arith, c.self.invariant.1)) (omega (arith, c.self.invariant.1)))
