-- WHAT THE NAMES OF A STAGE MEAN: its lets and reads, its pipes and its samples.
use Rattle.std.specs.Prelude.{List, Some, length, true, ℕ, ◌≡◌}
use Rattle.kp_ast.specs.{Expressions.look_up, declared.tree.Job.Job}
use Rattle.kp_ast.specs.Expressions as values
use Rattle.kp_width.specs.Names.{Sense, find}
use Rattle.kp_machine.specs.Trees.{entered}
use Rattle.kp_net.specs.{Growth.Held, Nodes.Cells, declared.node.NodeId.NodeId}
use Rattle.kp_build.specs.Names.{Scope, word_of}
use Rattle.kp_synth_stage.specs.{Doing.Truths, Doing.after_stmts, Doing.begun, Rows.Sees, Scopes.is_bound, Scopes.scope_at, Work.NodesHave, Work.stmts_at, declared.row.Source.Source}

-- the words of the names after the statements of stage k, with these truths of its reads, and these values of the hints, the pipes and the samples
abbrev pub names_after : Job → ℕ → Truths → (hints pipes samples : ℕ → ℕ) → values.Values
names_after job k v hints pipes samples = (after_stmts job.decls v hints (begun (entered job.decls samples pipes)) (stmts_at job k)).done.names

-- each name in scope at the end of stage k, other than a hint, has its word, with the truths from the sources, where the pipes, the samples and the hints
-- have the values of these nodes
unfoldable pub Knows : Job → ℕ → Held → List NodeId → List NodeId → List NodeId → List Source → Held → Scope → Type 0
Knows job k p pipes samples hints ss q env = (c : Cells) (v : Truths) (values taken aims : ℕ → ℕ) → Sees job c p ss v
    → NodesHave c p pipes values → NodesHave c p samples taken → NodesHave c p hints aims
    → (x : List ℕ) (m : Sense) → find (scope_at job k (length (stmts_at job k))) x ≡ Some m → is_bound m.kind ≡ true
    → word_of c q env x ≡ look_up (names_after job k v aims values taken) x
