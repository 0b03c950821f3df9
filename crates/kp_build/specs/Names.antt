-- Names with their nodes, and the value of an expression in terms of these nodes.
use Rattle.std.specs.Prelude.{◌≡◌, ◌<◌, ℕ, List, Option, Some, nat_eq, length, true, is_some}
use Rattle.std.specs.{Option.option_map, Map.lookup, Cmp.Lexicographic.pointwise}
use Rattle.indexmap.specs.IndexMap.{insert_entry}
use Rattle.kp_ast.specs.{Expressions.is_same_name, Expressions.eval, Expressions.calls_of, Checked.Known, Checked.checked, Checked.checked_calls_of}
use Rattle.kp_ast.specs.declared.tree.{Decl.Decl, Expr.Expr}
use Rattle.kp_ast.specs.Expressions as values
use Rattle.kp_bits.specs.Word.{Word}
use Rattle.kp_net.specs.{declared.node.NodeId.NodeId, Nodes.Cells, Nodes.word_at, Growth.Held}

abbrev pub Nodes : Type 0
Nodes = List (List ℕ × NodeId)

abbrev pub node_of : Nodes → List ℕ → Option NodeId
node_of names q = lookup (is_same_name q) names

-- the declarations, of which the functions can be called, and the names that have nodes
pub record Scope : Type 0 where
  pub decls : List Decl
  pub names : Nodes

-- a name is bound to this node, also if it was bound before
abbrev pub with_node : Nodes → List ℕ → NodeId → Nodes
with_node names q n = insert_entry (pointwise nat_eq) names q n

-- all nodes of names are in the pool
abbrev pub AreInside : Held → Scope → Type 0
AreInside p env = (q : List ℕ) (n : NodeId) → node_of env.names q ≡ Some n → n.0 < length p.nodes

-- names have the words of their nodes
abbrev pub HaveWords : Cells → Held → Scope → values.Names → Type 0
HaveWords c p env names = (q : List ℕ) (n : NodeId) → node_of env.names q ≡ Some n → names q ≡ word_at c p.nodes n.0

-- the node has the value of the expression, whatever the cells hold, where names have the words of their nodes
unfoldable pub Means : Held → Scope → Expr → Held → NodeId → Type 0
Means p env e q n = (c : Cells) (names : values.Names) → HaveWords c p env names
    → word_at c q.nodes n.0 ≡ eval (record { names = names; calls = calls_of env.decls }) e

-- the word that the node of a name has
unfoldable pub word_of : Cells → Held → Scope → List ℕ → Option Word
word_of c p env q = option_map (λ n. word_at c p.nodes n.0) (node_of env.names q)

-- what is known if names have the words of their nodes
abbrev pub known_at : Cells → Held → Scope → Known
known_at c p env = record { names = word_of c p env; calls = checked_calls_of env.decls }

-- the expression has a value, whatever the cells hold: each operation in it has operands of the required widths, and
-- each name and function is known
unfoldable pub IsSound : Held → Scope → Expr → Type 0
IsSound p env e = (c : Cells) → is_some (checked (known_at c p env) e) ≡ true

-- and the node has that value
unfoldable pub Gives : Held → Scope → Expr → Held → NodeId → Type 0
Gives p env e q n = (c : Cells) → checked (known_at c p env) e ≡ Some (word_at c q.nodes n.0)
