-- A hint of a job that violates no rule of stages is aimed in one of its stages.
use Rattle.std.proofs.Common.{◌≡◌, ◌∙◌, ℕ, ◌+◌, ◌<◌, ◌≤◌, Bool, true, false, cond, List, [], ◌∷◌, Option, Some, None, length, arith}
use Rattle.std.specs.Prelude.{slice_get}
use Rattle.kp_base.specs.First.{first}
use Rattle.kp_ast.specs.{Expressions.is_same_name, declared.tree.Block.Block, declared.tree.Job.Job, declared.tree.Stmt.Stmt, declared.tree.StmtKind.StmtKind}
use Rattle.kp_ast.specs.declared.tree.StmtKind.TheVariants as stmts
use Rattle.kp_stage.specs.{Facts.At, Facts.facts_of, Facts.aim_at, Facts.aims_in, Facts.aims_of, Stages.broken_of}
use Rattle.kp_machine.specs.{Slots.Slot, Slots.hints_of, Machine.machine_of, Machine.stage_or_zero, Machine.aim_stage}
use Rattle.kp_machine.proofs.Stages.{stages_inside}

-- AIMS are in blocks.
abbrev Below : ℕ → Option At → Type 0
Below n None = Unit {0}
Below n (Some at) = at.stage < n

below_first : (n : ℕ) (o : Option At) (os : List (Option At)) → Below n o → Below n (first os) → Below n (first (o ∷ os))
below_first n None os h more = more
below_first n (Some at) os h more = h

below_test : (n : ℕ) (b : Bool) (at : At) → at.stage < n → Below n (cond b (Some at) None)
below_test n true at h = h
below_test n false at h = tt

aim_below : (n : ℕ) (name : List ℕ) (k j : ℕ) (s : StmtKind) → k < n → Below n (aim_at name k j s)
aim_below n name k j (stmts.Aim m e) l = below_test n (is_same_name name m.name) (record { stage = k; index = j }) l
aim_below n name k j s l = tt

aims_below : (n : ℕ) (name : List ℕ) (k j : ℕ) (ss : List Stmt) → k < n → Below n (first (aims_in name k j ss))
aims_below n name k j [] l = tt
aims_below n name k j (s ∷ ss) l = below_first n (aim_at name k j s.kind) (aims_in name k (j + 1) ss) (aim_below n name k j s.kind l) (aims_below n name k (j + 1) ss l)

all_aims_below : (n : ℕ) (name : List ℕ) (k : ℕ) (bs : List Block) → k + length bs ≤ n → Below n (first (aims_of name k bs))
all_aims_below n name k [] l = tt
all_aims_below n name k (b ∷ bs) l =
    below_first n (first (aims_in name k 0 b.stmts)) (aims_of name (k + 1) bs) (aims_below n name k 0 b.stmts (omega arith)) (all_aims_below n name (k + 1) bs (omega arith))

below_stage : (n : ℕ) (o : Option At) → 0 < n → Below n o → stage_or_zero o < n
below_stage n None l h = l
below_stage n (Some at) l h = h

aim_inside : (job : Job) → broken_of job ≡ None → 1 ≤ job.stages.value → (o : Option Slot) → aim_stage (facts_of job) o < job.stages.value
aim_inside job kept some None = some
aim_inside job kept some (Some h) =
    let blocks = stages_inside job kept in
    below_stage job.stages.value ((facts_of job).aim h.name) some (all_aims_below job.stages.value h.name 0 job.blocks (omega (arith, blocks)))

pub aims_inside : (job : Job) → broken_of job ≡ None → 1 ≤ job.stages.value → (x : ℕ) → (machine_of job).hint_stage x < job.stages.value
unfolding machine_of
aims_inside job kept some x = aim_inside job kept some (slice_get (hints_of job.decls) x)
