-- A PART OF A LONGEST PATH, from a node down to another: with a path from there on it is a path, and with a longest one a longest.
use Rattle.std.specs.Prelude.{◌≡◌, ℕ, Bool, List, ◌++◌}
use Rattle.kp_net.specs.declared.node.Node.{Node}
use Rattle.kp_depth.specs.{declared.time.Input.Input, Times.time_at, Paths.IsPath, Paths.below}

pub record LeadsTo (ns : List Node) (inside : Bool) (from here : ℕ) (path : List Input) : Type 0 where
  pub leads : (rest : List Input) → IsPath ns inside here rest → IsPath ns inside from (path ++ rest)
  pub reaches : (rest : List Input) → below ns inside rest ≡ (time_at ns inside here).chain.latest
      → below ns inside (path ++ rest) ≡ (time_at ns inside from).chain.latest
