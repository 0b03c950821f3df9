-- Where all reads are bypassed no stage waits.
use Rattle.std.proofs.Common.{◌≡◌, ℕ, zero, suc, ◌+◌, ◌<◌, ◌≤◌, Bool, true, false, not, ◌&&◌, leb, List, [], ◌∷◌, Option, Some, None, inl, inr, refl, ap, subst, ◌∙◌, ⊎_elim, arith}
use Rattle.std.proofs.lemmas.Bool.{and_right, cases_lt, cond_both, false≢true, or_from}
use Rattle.std.specs.Prelude.{slice_get}
use Rattle.kp_ast.specs.declared.tree.{Expr.Expr, ReadStmt.ReadStmt, Decl.Decl, Stmt.Stmt, StmtKind.StmtKind, Job.Job}
use Rattle.kp_ast.specs.declared.tree.StmtKind.TheVariants as stmts
use Rattle.kp_stage.specs.Facts.{stmts_in}
use Rattle.kp_pipeline.specs.Machine.{Machine, State, Tree, Done, Ask, Guess}
use Rattle.kp_pipeline.specs.{Sequential.StageOutcome, Sequential.after_guess, Sequential.run, Nearest.IsNearestHit}
use Rattle.kp_pipeline.specs.Pipeline.{Inputs, PipelineState, above, back, outcome, stall, ue}
use Rattle.kp_pipeline.proofs.{Cycle.stall-above, Cycle.stall-is, Cycle.stall-top, Nearest.nearest-or-none, Nearest.no_hit-own}
use Rattle.kp_machine.specs.Trees.{Progress, entered, holds, value_of, value_with_hints, with_name, with_put, with_set, with_aim, word_of, word_read, read_of, statement_of, tree_of}
use Rattle.kp_machine.specs.{Slots.hints_of, Slots.pipes_of, Slots.targets_of, Slots.number_of, Slots.result_named, Machine.machine_of, Machine.stage_tree}
use Rattle.kp_paths.specs.declared.cell.Cell.{Cell}
use Rattle.kp_paths.specs.declared.cell.Cell.TheVariants as cells
use Rattle.kp_paths.specs.{Table.cell_at, Table.target_read, Claims.ArePaths, Claims.state_at}
use Rattle.kp_tool.specs.Bypassed.{IsBypassed, IsReadIn, NeverWaits, is_bypass}

-- each read of a tree that isn't guessed is of such a target
abbrev Asks : (ℕ → Type 0) → Tree → Type 0
Asks P (Done puts sets aims) = Unit {0}
Asks P (Ask t a rest) = P t × ((v : ℕ) → Asks P (rest v))
Asks P (Guess t guess rest) = (v : ℕ) → Asks P (rest v)

guess-calm : (o : Option ℕ) (t g : ℕ) (go : ℕ → StageOutcome) → ((v : ℕ) → (go v).hazard ≡ false) → (after_guess o t g go).hazard ≡ false
guess-calm None t g go h = h g
guess-calm (Some v) t g go h = h v

-- if these targets have values, there is no hazard
run-calm : (P : ℕ → Type 0) (view : ℕ → ℕ → Option ℕ) (hints : ℕ → ℕ) → ((t a : ℕ) → P t → (v : ℕ) × (view t a ≡ Some v))
    → (tree : Tree) → Asks P tree → (run view hints tree).hazard ≡ false
run-calm P view hints met (Done puts sets aims) h = refl
run-calm P view hints met (Ask t a rest) h = let x = met t a h.0 in rw x.1 (run-calm P view hints met (rest x.0) (h.1 x.0))
run-calm P view hints met (Guess t guess rest) h =
    guess-calm (view t 0) t (guess hints) (λ v. run view hints (rest v)) (λ v. run-calm P view hints met (rest v) (h v))

-- the reads of a tree are those of the statements
module _ (ds : List Decl) (P : ℕ → Type 0) where
  abbrev Plain : ReadStmt → Type 0
  Plain r = r.guess ≡ None → P (number_of (targets_of ds) r.target.name)

  read : (done : Progress) (r : ReadStmt) (o : Option Expr) (rest : ℕ → Tree) → r.guess ≡ o → Plain r → ((v : ℕ) → Asks P (rest v)) → Asks P (read_of ds done r o rest)
  read done r None rest is h go = (h is, go)
  read done r (Some e) rest is h go = go

  statement : (done : Progress) (s : StmtKind) (rest : Progress → Tree) → ((r : ReadStmt) → s ≡ stmts.Read r → Plain r)
      → ((next : Progress) → Asks P (rest next)) → Asks P (statement_of ds done s rest)
  statement done (stmts.Read r) rest h go =
      cond_both (holds ds done r.when)
      (read_of ds done r r.guess (λ v. rest (with_name done r.name.name (word_read ds r v))))
      (rest (with_name done r.name.name (word_read ds r 0))) (Asks P)
      (λ _. read done r r.guess (λ v. rest (with_name done r.name.name (word_read ds r v))) refl (h r refl) (λ v. go (with_name done r.name.name (word_read ds r v))))
      (λ _. go (with_name done r.name.name (word_read ds r 0)))
  statement done (stmts.Let n e) rest h go = go (with_name done n.name (word_of ds done e))
  statement done (stmts.Put n e) rest h go = go (with_put done (number_of (pipes_of ds) n.name) (value_of ds done e))
  statement done (stmts.Set n e when) rest h go =
      cond_both (holds ds done when) (rest (with_set ds done (result_named ds n.name) (value_of ds done e))) (rest done) (Asks P)
      (λ _. go (with_set ds done (result_named ds n.name) (value_of ds done e))) (λ _. go done)
  statement done (stmts.Aim n e) rest h go = go (with_aim done (number_of (hints_of ds) n.name) (value_with_hints ds done e))

  tree : (done : Progress) (ss : List Stmt) → ((r : ReadStmt) → IsReadIn r ss → Plain r) → Asks P (tree_of ds done ss)
  tree done [] h = tt
  tree done (s ∷ ss) h = statement done s.kind (λ next. tree_of ds next ss) (λ r e. h r (inl e)) (λ next. tree next ss (λ r e. h r (inr e)))

-- the targets that stage k reads without a guess
abbrev IsRead : Job → ℕ → ℕ → Type 0
IsRead job k t = (r : ReadStmt) × IsReadIn r (stmts_in (slice_get job.blocks k)) × (r.guess ≡ None) × (target_read job r ≡ t)

asks : (job : Job) (k : ℕ) (q p : ℕ → ℕ) → Asks (IsRead job k) ((machine_of job).body k q p)
unfolding machine_of stage_tree
asks job k q p = tree job.decls (IsRead job k) (entered job.decls q p) (stmts_in (slice_get job.blocks k)) (λ r e plain. (r, e, plain, refl))

module _ (job : Job) (paths : ArePaths job) (bypassed : IsBypassed job) (s : State) (hints : ℕ → ℕ) (ins : List Inputs) (T : ℕ) (i : Inputs) where
  abbrev m : Machine
  m = machine_of job

  abbrev st : PipelineState
  st = state_at m s hints ins T

  by_cell : (r : ReadStmt) (k j a : ℕ) (c : Cell) → cell_at job r k j ≡ c → is_bypass c ≡ true → IsNearestHit m st k (target_read job r) a j
      → stall m st i j ≡ false → (v : ℕ) × ((above m st i k).truth (target_read job r) a ≡ Some v)
  by_cell r k j a cells.Bypass e fits near calm = paths.bypass s hints ins T i r k j a e near calm
  by_cell r k j a cells.Reads e fits near calm = absurd (paths.empty st r k j a (inl e) near)
  by_cell r k j a cells.Empty e fits near calm = absurd (paths.empty st r k j a (inr e) near)
  by_cell r k j a cells.Wait e fits near calm = absurd (false≢true fits)
  by_cell r k j a cells.Guess e fits near calm = absurd (false≢true fits)
  by_cell r k j a cells.Maybe e fits near calm = absurd (false≢true fits)

  -- below stages that don't stall each read has its value
  met : (k : ℕ) → k < m.stages → ((j : ℕ) → k < j → j < m.stages → stall m st i j ≡ false)
      → (t a : ℕ) → IsRead job k t → (v : ℕ) × ((above m st i k).truth t a ≡ Some v)
  met k b calm t a (r, e, plain, is) =
      subst (λ (u : ℕ). (v : ℕ) × ((above m st i k).truth u a ≡ Some v)) is
      (⊎_elim
      (λ (h : (j : ℕ) × IsNearestHit m st k (target_read job r) a j). by_cell r k h.0 a (cell_at job r k h.0) refl (bypassed r k h.0 e plain) h.1 (calm h.0 h.1.0 h.1.1))
      (λ none. (st.visible (target_read job r) a, no_hit-own m st i k (target_read job r) a b none))
      (nearest-or-none m st k (target_read job r) a b))

  no_hazard : (k : ℕ) → k < m.stages → ((j : ℕ) → k < j → j < m.stages → stall m st i j ≡ false) → (outcome m st i k).hazard ≡ false
  unfolding outcome
  no_hazard k b calm = run-calm (IsRead job k) (above m st i k).truth st.hints (met k b calm) (m.body k i.samples (st.stage k).instruction.pipes) (asks job k i.samples (st.stage k).instruction.pipes)

  module _ (free : (k : ℕ) → k < m.stages → i.ext k ≡ false) where
    calm_from : (d k : ℕ) → k < m.stages → m.stages ≤ k + d → stall m st i k ≡ false
    calm_from zero k b c = absurd (omega arith)
    calm_from (suc d) k b c =
        let upper : (j : ℕ) → k < j → j < m.stages → stall m st i j ≡ false = λ j x y. calm_from d j y (omega arith) in
        let none : (above m st i k).stall ≡ false =
        ⊎_elim (λ (x : suc k < m.stages). stall-above m st i k x ∙ upper (suc k) (omega arith) x) (λ (x : m.stages ≤ suc k). stall-top m st i k x) (cases_lt (suc k) m.stages) in
        stall-is m st i k ∙ and_right (st.stage k).full _ (or_from _ _ (no_hazard k b upper) (or_from _ _ (free k b) none))

    calm_all : (k : ℕ) → k < m.stages → stall m st i k ≡ false
    calm_all k b = calm_from m.stages k b (omega arith)

    moves_all : (k : ℕ) → k < m.stages → ue m st i k ≡ ((st.stage k).full && leb (back m st i) k)
    unfolding ue
    moves_all k b = ap (λ (w : Bool). (st.stage k).full && (not w && leb (back m st i) k)) (calm_all k b)

pub never_waits : (job : Job) → ArePaths job → IsBypassed job → NeverWaits job
never_waits job paths bypassed = record { calm = calm_all job paths bypassed; moves = moves_all job paths bypassed }
