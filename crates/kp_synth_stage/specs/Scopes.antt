-- THE SCOPE of each statement of a job, and the nodes of its names.
use Rattle.std.specs.Prelude.{Bool, List, None, Option, Some, false, take, true, ℕ, ◌≡◌}
use Rattle.kp_ast.specs.declared.{tree.Job.Job, widths.NameKind.NameKind}
use Rattle.kp_width.specs.{Declarations.declarations_of, Names.Scoped, Names.Sense, Names.find, Names.nothing, Names.opened}
use Rattle.kp_width.specs.Statements.{blocks_of, statements_of}
use Rattle.kp_net.specs.{Growth.Held, Growth.Wire, declared.node.NodeId.NodeId}
use Rattle.kp_build.specs.Names.{AreInside, Scope, node_of}
use Rattle.kp_synth_stage.specs.Work.{stmts_at}
use Rattle.kp_ast.specs.declared.widths.NameKind.TheVariants as kinds
use Rattle.kp_ast.specs.declared.widths.Scope.TheVariants as scopes

-- what is in scope after the declarations, at the start of stage k, and before its statement j
abbrev pub declared : Job → Scoped
declared job = (declarations_of job.decls 0 0 nothing job.decls).value

abbrev pub opened_at : Job → ℕ → Scoped
opened_at job k = opened (blocks_of job.decls 0 (declared job) (take k job.blocks)).value (scopes.Stage k)

unfoldable pub scope_at : Job → ℕ → ℕ → Scoped
scope_at job k j = (statements_of job.decls (opened_at job k) (take j (stmts_at job k))).value

-- a name other than a hint that has a value in a stage; and what may occur in an expression there
abbrev pub is_bound : NameKind → Bool
is_bound kinds.Pipe = true
is_bound kinds.Sample = true
is_bound kinds.Read = true
is_bound kinds.Let = true
is_bound _ = false

abbrev pub is_value : NameKind → Bool
is_value kinds.Pipe = true
is_value kinds.Sample = true
is_value kinds.Read = true
is_value kinds.Let = true
is_value kinds.Hint = true
is_value _ = false

-- a name has a node of this width
abbrev pub Binds : Held → ℕ → Option NodeId → Type 0
Binds p w None = ⊥
Binds p w (Some n) = Wire p n w

-- each name that has a value in this scope has a node of its width, and no other name of a stage has one
pub record Bound (job : Job) (s : Scoped) (p : Held) (env : Scope) : Type 0 where
  pub decls : env.decls ≡ job.decls
  pub bound : (q : List ℕ) (m : Sense) → find s q ≡ Some m → is_value m.kind ≡ true → Binds p m.width (node_of env.names q)
  pub only : (q : List ℕ) → find s q ≡ None → node_of env.names q ≡ None
  pub inside : AreInside p env
