-- The cycles of a run.
use Rattle.std.proofs.Common.{◌≡◌, ℕ, zero, suc, ◌<◌, List, [], ◌∷◌, length, get_or, sym, subst, arith}
use Rattle.kp_pipeline.specs.{Machine.Machine, Pipeline.Inputs, Rows.Row}
use Rattle.kp_pipeline.specs.RightPath.{Moment, WaitsOnlyWhereItMust, WaitsWhereItMust, next_moment}
use Rattle.kp_stalls.specs.Claims.{moment_at}

pub must_at : (m : Machine) (s given : ℕ → ℕ → ℕ) (ins : List Inputs) (now : Moment) (rows : List Row) (T : ℕ) (i : Inputs) (r : Row) → WaitsOnlyWhereItMust m s given now ins rows → T < length ins
    → i ≡ get_or ins T i → r ≡ get_or rows T r → WaitsWhereItMust m s given (moment_at m now ins T) i r
must_at m s given [] now rows T i r must b e f = absurd (omega (arith, b))
must_at m s given (j ∷ ins) now [] T i r must b e f = absurd must
must_at m s given (j ∷ ins) now (q ∷ rows) zero i r must b e f =
    subst (λ y. WaitsWhereItMust m s given now y r) (sym e) (subst (λ y. WaitsWhereItMust m s given now j y) (sym f) must.0)
must_at m s given (j ∷ ins) now (q ∷ rows) (suc T) i r must b e f = must_at m s given ins (next_moment m now j) rows T i r must.1 (omega (arith, b)) e f
