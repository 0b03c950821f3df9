-- Nodes that have the values of expressions.
use Rattle.std.specs.Prelude.{◌≡◌, ◌<◌, ◌-◌, ℕ, List, map, length, All, Option, Some, true, is_some}
use Rattle.kp_bits.specs.{Word.Word, Word.word, Word.not_of, Word.mux_of, Word.slice_of}
use Rattle.kp_ast.specs.{declared.tree.Expr.Expr, Checked.checked, Checked.all_there}
use Rattle.kp_net.specs.{declared.node.NodeId.NodeId, Nodes.Cells, Nodes.word_at, Growth.Held}
use Rattle.kp_build.specs.Names.{Scope, known_at}

-- the words of nodes
abbrev pub words_at : Cells → Held → List NodeId → List Word
words_at c p ns = map (λ n. word_at c p.nodes n.0) ns

-- the value exists, whatever the cells hold
unfoldable pub IsThere : {X : Type 0} → (Cells → Option X) → Type 0
IsThere f = (c : Cells) → is_some (f c) ≡ true

-- the node has this value, whatever the cells hold
unfoldable pub Shows : Held → NodeId → (Cells → Option Word) → Type 0
Shows q n f = (c : Cells) → f c ≡ Some (word_at c q.nodes n.0)

-- and so have nodes these values
unfoldable pub AllShow : Held → List NodeId → (Cells → Option (List Word)) → Type 0
AllShow q ns f = (c : Cells) → f c ≡ Some (words_at c q ns)

-- all nodes are in the pool
abbrev pub AllInside : Held → List NodeId → Type 0
AllInside p ns = All (λ n. n.0 < length p.nodes) ns

-- the value of an expression, and those of expressions
abbrev pub value_in : Held → Scope → Expr → Cells → Option Word
value_in p env e c = checked (known_at c p env) e

abbrev pub values_in : Held → Scope → List Expr → Cells → Option (List Word)
values_in p env es c = all_there (map (checked (known_at c p env)) es)

-- n copies of the top bit: all ones or all zeros
abbrev pub copies : ℕ → Word → Word
copies count a = mux_of (slice_of a (a.width - 1) (a.width - 1)) (not_of (word count 0)) (word count 0)
