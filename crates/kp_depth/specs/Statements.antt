-- THE STATEMENTS ON A PATH, by the table of wires, which has the node of what each statement makes.
use Rattle.std.specs.Prelude.{ℕ, ◌==◌, List, [], ◌∷◌, Contains, flat_map, map, Option, Some, None, if◌then◌else◌}
use Rattle.kp_ast.specs.declared.tree.Job.{Job}
use Rattle.kp_net.specs.{Netlist.Net, declared.node.Kind.Kind, declared.node.Kind.TheVariants.Reg}
use Rattle.kp_synth_registers.specs.Keys.{key_at}
use Rattle.kp_wires.specs.declared.wire.Wire.{Wire}
use Rattle.kp_depth.specs.declared.{stages.Path.Path, time.Input.Input}
use Rattle.kp_depth.specs.{Depths.held_in, Paths.kind_at}

-- the wires of the table that are this node
abbrev pub if_at : ℕ → Wire → List Wire
if_at i w = if w.node.0 == i then w ∷ [] else []

abbrev pub named_at : List Wire → ℕ → List Wire
named_at wires i = flat_map (if_at i) wires

-- THE WIRES BESIDE A PATH, whose statements are named there
abbrev pub nodes_of : Path → List ℕ
nodes_of p = p.end.node.0 ∷ map (λ x. x.node.0) p.steps.items

abbrev pub named_on : List Wire → Path → List Wire
named_on wires p = flat_map (named_at wires) (nodes_of p)

-- they are exactly those of the table whose node is on the path
pub record NamesExactly (wires : List Wire) (p : Path) : Type 0 where
  pub on_path : (w : Wire) → Contains (named_on wires p) w → Contains wires w × Contains (nodes_of p) w.node.0
  pub named : (w : Wire) → Contains wires w → Contains (nodes_of p) w.node.0 → Contains (named_on wires p) w

-- THE STAGE that a path comes from: that of the last of its nodes that is in the table or a register
abbrev pub register_stage : Job → Kind → Option ℕ
register_stage job (Reg r) = Some (held_in (key_at job r))
register_stage job kind = None

abbrev pub first_of : Option ℕ → Option ℕ → Option ℕ
first_of None b = b
first_of (Some a) b = Some a

abbrev pub stage_in : List Wire → ℕ → Option ℕ
stage_in [] i = None
stage_in (w ∷ ws) i = if w.node.0 == i then Some w.stage else stage_in ws i

abbrev pub stage_at : Job → Net → List Wire → ℕ → Option ℕ
stage_at job net wires i = first_of (stage_in wires i) (register_stage job (kind_at net.nodes i))

abbrev pub or_before : ℕ → Option ℕ → ℕ
or_before before None = before
or_before before (Some k) = k

-- of a path from a node down
abbrev pub origin : Job → Net → List Wire → List Input → ℕ
origin job net wires [] = 0
origin job net wires (x ∷ path) = or_before (origin job net wires path) (stage_at job net wires x.node.0)
