-- THE STATE OF A STAGE before one of its statements, as nodes.
use Rattle.std.specs.Prelude.{List, None, Option, Some, [], suc, take, true, ℕ, ◌++◌, ◌∷◌, ◌≡◌}
use Rattle.kp_base.specs.First.{first}
use Rattle.kp_ast.specs.{Expressions.is_same_name, declared.tree.Job.Job, declared.tree.StmtKind.StmtKind}
use Rattle.kp_ast.specs.declared.tree.StmtKind.TheVariants as stmts
use Rattle.kp_width.specs.{Names.Scoped, Names.Sense, Names.find, Names.is_hint, Statements.statement_of}
use Rattle.kp_stage.specs.{Facts.Facts, Facts.facts_of, declared.rules.Rule.Rule, Rules.ask_values, Rules.may_guess}
use Rattle.kp_machine.specs.{Slots.Slot, Slots.hints_of, Slots.pipes_of, Slots.samples_of, Slots.words_of, Trees.entered}
use Rattle.kp_net.specs.{Growth.Held, Nodes.Cells, declared.node.NodeId.NodeId}
use Rattle.kp_build.specs.Names.{Nodes, Scope, with_node, word_of}
use Rattle.kp_design.specs.{Numbers.guesses_in, Numbers.with_guess, declared.guess.GuessSlot.GuessSlot}
use Rattle.kp_synth_stage.specs.{Rows.Sees, Work.Fits, Work.Means, Work.NodesHave, Work.stmts_at, declared.row.Source.Source, declared.work.Work.Work}
use Rattle.kp_synth_stage.specs.Doing.{Doing, after_stmt, after_stmts, begun, outcome_of}
use Rattle.kp_synth_stage.specs.Scopes.{Bound, is_bound, scope_at}
use Rattle.kp_ast.specs.Expressions as values

-- the guessed reads of stage k before statement j
unfoldable pub slots_at : Job → ℕ → ℕ → List GuessSlot
slots_at job k j = guesses_in job k 0 (take j (stmts_at job k))

-- the names have these words, where the hints have these values
pub record Names (job : Job) (s : Scoped) (hinted : ℕ → ℕ) (c : Cells) (p : Held) (env : Scope) (known : values.Values) : Type 0 where
  pub names : (q : List ℕ) (m : Sense) → find s q ≡ Some m → is_bound m.kind ≡ true → word_of c p env q ≡ values.look_up known q
  pub hints : (q : List ℕ) (m : Sense) → find s q ≡ Some m → is_hint m.kind ≡ true → word_of c p env q ≡ values.look_up (words_of (hints_of job.decls) hinted) q
  pub plain : (q : List ℕ) (m : Sense) → find s q ≡ Some m → is_hint m.kind ≡ true → values.look_up known q ≡ None
  pub only : (q : List ℕ) → find s q ≡ None → values.look_up known q ≡ None

-- the nodes before statement j of stage k are well-formed
pub record WorkOk (job : Job) (k j : ℕ) (p : Held) (w : Work) : Type 0 where
  pub env : Bound job (scope_at job k j) p w.env
  pub fits : Fits job p (slots_at job k j) w

-- and what they mean there
pub record Stands (job : Job) (k j : ℕ) (hints : ℕ → ℕ) (c : Cells) (p : Held) (w : Work) (d : Doing) : Type 0 where
  pub names : Names job (scope_at job k j) hints c p w.env d.done.names
  pub outcome : Means job c p (slots_at job k j) w (outcome_of hints d)

-- a guess is of a register, which is read without an address
abbrev pub GuessRight : Facts → ℕ → StmtKind → Type 0
GuessRight facts k (stmts.Read r) = may_guess facts k r ≡ true
GuessRight facts k _ = Unit {0}

-- the slots of one statement, which i guessed reads precede
abbrev pub own_slots : Job → ℕ → StmtKind → ℕ → List GuessSlot
own_slots job k x i = with_guess job k i x (λ m. [])

-- what holds of statement j of stage k
pub record StmtRight (job : Job) (k j : ℕ) (x : StmtKind) : Type 0 where
  pub right : first (statement_of job.decls (scope_at job k j) x).asked ≡ None
  pub next : scope_at job k (suc j) ≡ (statement_of job.decls (scope_at job k j) x).value
  pub free : ask_values (facts_of job) Rule.E25 k x ≡ None
  pub guess : GuessRight (facts_of job) k x
  pub slots : (n : ℕ) × (slots_at job k (suc j) ≡ slots_at job k j ++ own_slots job k x n)

-- a statement of stage k is translated correctly: what its nodes mean after it is what it does
unfoldable pub GoesBy : Job → ℕ → ℕ → StmtKind → Held → Work → List Source → Held → Work → Type 0
GoesBy job k j x p w ss q w' = (c : Cells) (v : ℕ → ℕ → Option ℕ) (hints : ℕ → ℕ) (d : Doing) → Sees job c p ss v
    → Stands job k j hints c p w d → Stands job k (suc j) hints c q w' (after_stmt job.decls v hints d x)

-- and so are the first j statements of the stage
unfoldable pub AllGo : Job → ℕ → Held → Work → List Source → Held → Work → ℕ → Type 0
AllGo job k p w ss q w' j = (c : Cells) (v : ℕ → ℕ → Option ℕ) (hints : ℕ → ℕ) (d : Doing) → Sees job c p ss v
    → Stands job k 0 hints c p w d → Stands job k j hints c q w' (after_stmts job.decls v hints d (take j (stmts_at job k)))

-- the names of these slots are bound to these nodes; the first slot with a name takes precedence
abbrev pub names_with : Nodes → List Slot → List NodeId → Nodes
names_with names [] ns = names
names_with names (s ∷ ss) [] = names
names_with names (s ∷ ss) (n ∷ ns) = with_node (names_with names ss ns) s.name n

-- the names of the pipes, the samples and the hints, with these nodes
abbrev pub env_of : Job → List NodeId → List NodeId → List NodeId → Scope
env_of job pipes samples hints = record {
  decls = job.decls;
  names = names_with (names_with (names_with [] (hints_of job.decls) hints) (samples_of job.decls) samples) (pipes_of job.decls) pipes;
}

-- the start of a stage: the pipes have the values of these nodes, and so have the samples and the hints
unfoldable pub Enters : Job → ℕ → Held → List NodeId → List NodeId → List NodeId → Held → Work → Type 0
Enters job k p pipes samples hints q w = (c : Cells) (values taken aims : ℕ → ℕ) → NodesHave c p pipes values → NodesHave c p samples taken → NodesHave c p hints aims
    → Stands job k 0 aims c q w (begun (entered job.decls taken values))
