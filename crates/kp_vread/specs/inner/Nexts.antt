-- The next values of registers, as a table has them.
use Rattle.std.specs.{Prelude.ℕ, Prelude.◌≡◌, Prelude.List, Prelude.Option, Prelude.Some, Prelude.None, Map.lookup}
use Rattle.kp_net.specs.{declared.node.NodeId.NodeId, Names.same}
use Rattle.kp_vlog.specs.{declared.tree.Update.Update, Denote.next_of}
use Rattle.kp_vread.specs.inner.Numbering.{Numbered, AreNumbered}

abbrev pub node_or_first : Option NodeId → NodeId
node_or_first None = record { 0 = 0 }
node_or_first (Some a) = a

-- the node that a table has for a register
abbrev pub next_by : List (List ℕ × NodeId) → List ℕ → NodeId
next_by entries n = node_or_first (lookup (same n) entries)

-- The table has the next values that the updates specify, with wires numbered in this way.
pub record AreNexts (wires : Numbered) (entries : List (List ℕ × NodeId)) (xs : List Update) : Type 0 where
  pub nexts : (ks : List (List ℕ)) → AreNumbered wires ks → (n : List ℕ) → next_by entries n ≡ next_of ks xs n
