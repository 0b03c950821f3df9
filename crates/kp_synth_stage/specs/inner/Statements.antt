-- Requirements and results of the calls for single statements.
use Rattle.std.specs.Option.{option_map}
use Rattle.std.specs.Prelude.{List, None, Option, Some, [], length, ℕ, ◌∷◌, ◌≡◌}
use Rattle.kp_base.specs.{Check.Check, First.first}
use Rattle.kp_ast.specs.declared.tree.{Decl.Decl, Expr.Expr, Job.Job, ReadStmt.ReadStmt}
use Rattle.kp_width.specs.{Expressions.width_of, Faults.WidthFinding}
use Rattle.kp_machine.specs.{Slots.Slot, Slots.number_of, Slots.result_named, Trees.Progress}
use Rattle.kp_net.specs.{Growth.Held, Growth.Wire, Nodes.Cells, Nodes.at, Nodes.on, declared.node.NodeId.NodeId}
use Rattle.kp_build.specs.Names.{Gives, Scope}
use Rattle.kp_synth_registers.specs.declared.outcome.Made.{Made}
use Rattle.kp_synth_stage.specs.{Rows.Sees, declared.row.Answer.Answer, declared.row.Source.Source}
use Rattle.kp_synth_stage.specs.{Doing.Truths, Doing.miss_of, Doing.read_lacks, Doing.read_value, Reading.value_or_zero, Scopes.scope_at, inner.Standing.Names}

-- the target of a result
abbrev pub target_named : List Decl → List Slot → List ℕ → Option ℕ
target_named ds targets name = option_map (λ r. number_of targets r.target.name) (result_named ds name)

-- the width of an expression before statement j of stage k, and whether it satisfies the rules
abbrev pub width_in : Job → ℕ → ℕ → Expr → Check WidthFinding ℕ
width_in job k j e = width_of job.decls (length job.decls) (scope_at job k j) e

abbrev pub IsRight : Job → ℕ → ℕ → Expr → Type 0
IsRight job k j e = first (width_in job k j e).asked ≡ None

-- the same for an optional expression
abbrev pub OptionRight : Job → ℕ → ℕ → Option Expr → Type 0
OptionRight job k j None = Unit {0}
OptionRight job k j (Some e) = IsRight job k j e

abbrev pub OptionWire : Job → ℕ → ℕ → Held → Option Expr → Option NodeId → Type 0
OptionWire job k j p None None = Unit {0}
OptionWire job k j p (Some e) (Some n) = Wire p n (width_in job k j e).value
OptionWire job k j p _ _ = ⊥

abbrev pub OptionGives : Held → Scope → Option Expr → Held → Option NodeId → Type 0
OptionGives p env None q None = Unit {0}
OptionGives p env (Some e) q (Some n) = Gives p env e q n
OptionGives p env _ q _ = ⊥

-- there is a guess exactly if the read has one
abbrev pub GuessOk : Held → ℕ → Option Expr → Option NodeId → Type 0
GuessOk p w None None = Unit {0}
GuessOk p w (Some e) (Some n) = Wire p n w
GuessOk p w _ _ = ⊥

-- what the nodes of a read mean
pub record ReadIs (ds : List Decl) (v : Truths) (hints : ℕ → ℕ) (done : Progress) (r : ReadStmt) (c : Cells) (q : Held) (a : Answer) : Type 0 where
  pub value : at c q.nodes a.value.0 ≡ read_value ds v hints done r
  pub lacks : on c q.nodes a.lacks.0 ≡ read_lacks ds v done r
  pub guess : value_or_zero c q a.guess ≡ miss_of ds hints done r.guess

unfoldable pub ReadGives : Job → ℕ → ℕ → ReadStmt → Held → Scope → List Source → Held → Answer → Type 0
ReadGives job k j r p env ss q a = (c : Cells) (v : ℕ → ℕ → Option ℕ) (hints : ℕ → ℕ) (done : Progress) → Sees job c p ss v
    → Names job (scope_at job k j) hints c p env done.names → ReadIs job.decls v hints done r c q a

-- the guess that a read makes, if it has one
abbrev pub made_of : NodeId → Option NodeId → List Made
made_of pending None = []
made_of pending (Some value) = record { pending = pending; value = value } ∷ []
