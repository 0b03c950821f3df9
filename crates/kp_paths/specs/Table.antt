-- THE TABLE of a job: a row for each read, with a cell for each stage.
use Rattle.std.specs.Prelude.{ℕ, ◌+◌, List, [], ◌∷◌, ◌++◌, Option, Some, None, Bool, ◌&&◌, ◌==◌, nat_le, is_some, is_none}
use Rattle.std.specs.List.{list_any}
use Rattle.kp_ast.specs.declared.tree.{Expr.Expr, ReadStmt.ReadStmt, ResultDecl.ResultDecl, Decl.Decl, Stmt.Stmt, StmtKind.StmtKind, Block.Block, Job.Job}
use Rattle.kp_ast.specs.declared.tree.StmtKind.TheVariants as stmts
use Rattle.kp_machine.specs.{Slots.targets_of, Slots.number_of, Slots.result_named, Machine.machine_of}
use Rattle.kp_paths.specs.{declared.cell.Cell.Cell, declared.sets.Placed.Placed, Cells.cell_of}

-- THE SETS of a job in text order, each with its stage, the target of its result, and whether it has no condition.
abbrev pub placed : List Decl → ℕ → Option Expr → Option ResultDecl → List Placed
placed ds k when None = []
placed ds k when (Some r) = record { stage = k; target = number_of (targets_of ds) r.target.name; sure = is_none when } ∷ []

abbrev pub set_in : List Decl → ℕ → StmtKind → List Placed
set_in ds k (stmts.Set n e when) = placed ds k when (result_named ds n.name)
set_in ds k _ = []

abbrev pub sets_in : List Decl → ℕ → List Stmt → List Placed
sets_in ds k [] = []
sets_in ds k (s ∷ ss) = set_in ds k s.kind ++ sets_in ds k ss

abbrev pub sets_from : List Decl → ℕ → List Block → List Placed
sets_from ds k [] = []
sets_from ds k (b ∷ bs) = sets_in ds k b.stmts ++ sets_from ds (k + 1) bs

abbrev pub sets_of : Job → List Placed
sets_of job = sets_from job.decls 0 job.blocks

-- a set of the result of target t in a stage up to j, and one without a condition
abbrev pub is_set_by : ℕ → ℕ → Placed → Bool
is_set_by t j s = (s.target == t) && nat_le s.stage j

abbrev pub is_surely_set_by : ℕ → ℕ → Placed → Bool
is_surely_set_by t j s = s.sure && is_set_by t j s

-- the number of the target that a read reads
abbrev pub target_read : Job → ReadStmt → ℕ
target_read job r = number_of (targets_of job.decls) r.target.name

-- THE CELL of stage j for a read in stage k.
unfoldable pub cell_at : Job → ReadStmt → ℕ → ℕ → Cell
cell_at job r k j =
    let t = target_read job r in
    cell_of (machine_of job) (is_some r.guess) t k j (list_any (is_set_by t j) (sets_of job)) (list_any (is_surely_set_by t j) (sets_of job))
