-- The first nodes that read the cells are built.
use Rattle.std.specs.Prelude.{◌≡◌, ℕ, ◌<◌, ◌^◌, ◌%◌, List, length}
use Rattle.kp_ast.specs.declared.tree.Job.{Job}
use Rattle.kp_net.specs.{declared.node.NodeId.NodeId, Nodes.Cells, Nodes.at, Growth.Held, Growth.Wire}
use Rattle.kp_synth_registers.specs.Keys.{key_width, key_at}
use Rattle.kp_design.specs.Numbers.{sample_at}
use Rattle.kp_synth_registers.specs.Meaning.{Gives, node_at}

-- The first registers are read.
pub record FirstRead (job : Job) (p : Held) (nodes : List NodeId) : Type 0 where
  pub wires : (r : ℕ) → r < length nodes → Wire p (node_at nodes r) (key_width job (key_at job r))
  pub values : (c : Cells) (r : ℕ) → r < length nodes → at c p.nodes (node_at nodes r).0 ≡ c.reg r % 2 ^ key_width job (key_at job r)

-- The first samples have their nodes.
pub record FirstSamples (job : Job) (p : Held) (nodes : List NodeId) : Type 0 where
  pub wires : (x : ℕ) → x < length nodes → Wire p (node_at nodes x) (sample_at job x).width
  pub gives : (x : ℕ) → x < length nodes → Gives job p (node_at nodes x) (λ st i. i.samples x)
