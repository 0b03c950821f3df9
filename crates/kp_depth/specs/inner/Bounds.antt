-- HOW LATE the nodes of a list can be: each adds less than 65,536.
use Rattle.std.specs.Prelude.{ℕ, ◌*◌, ◌≤◌, List, length, All}
use Rattle.kp_depth.specs.{declared.time.Time.Time}

pub record IsEarly (n : ℕ) (v : Time) : Type 0 where
  pub arrival : v.arrival ≤ 65536 * n
  pub latest : v.chain.latest ≤ 65536 * n

pub record Bounded (known : List Time) : Type 0 where
  pub each : All (IsEarly (length known)) known
