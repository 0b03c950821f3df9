-- How many instructions retire in many stall-free cycles.
use Rattle.std.proofs.Common.{ℕ, suc, ◌+◌, ◌-◌, ◌*◌, ◌<◌, ◌≤◌, ◌⊎◌, inl, inr, List, length, ⊎_elim, arith}
use Rattle.std.proofs.lemmas.Bool.{cases_lt}
use Rattle.std.proofs.lemmas.Nat.{column_fits}
use Rattle.kp_pipeline.specs.{Pipeline.Inputs, Machine.Machine, Rows.Trace, Rows.passed, Claims.Moves, Claims.stall_free_cycles}

-- k columns of n that fit below p columns of n and n - 1 more are at most p
many : (n k p : ℕ) → 1 ≤ n → n * k ≤ n * p + (n - 1) → k ≤ p
many n k p some h = ⊎_elim (λ (e : p < k). omega (arith, column_fits n p n k e (omega arith))) (λ e. omega arith) (cases_lt p k)

pub retire_many : (m : Machine) (ins : List Inputs) (trace : Trace) (T U k : ℕ) → 1 ≤ m.stages → Moves m ins trace → T ≤ U → U ≤ length trace.rows
    → m.stages * k ≤ stall_free_cycles m.stages ins U - stall_free_cycles m.stages ins T
    → k ≤ passed trace.rows (m.stages - 1) U - passed trace.rows (m.stages - 1) T
retire_many m ins trace T U k some moves a b c =
    many m.stages k (passed trace.rows (m.stages - 1) U - passed trace.rows (m.stages - 1) T) some (omega (arith, moves.1 T U a b))
