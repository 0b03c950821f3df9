-- What a memory lends.
use Rattle.std.specs.{Prelude.ℕ, Prelude.List, Prelude.length, List.refill, Borrow.Lends, Borrow.MutBor, Borrow.Fml, Borrow.Array, Borrow.u64}
use Rattle.kp_cycle_plan.specs.{Storage.Stored, contracts.memory.Memory.the_row}

-- the memory ends with the last values of the nodes, of which there are as many
abbrev pub LendsNodes : MutBor Stored → MutBor (List ℕ) → Fml
LendsNodes m r = Lends the_row (Array u64 0) m r (λ ws. record m.now { nodes = refill (length m.now.nodes) m.now.nodes ws })
