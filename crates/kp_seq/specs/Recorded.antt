-- The record of an instruction: where it read, where it wrote, and in which stages its results were set. A register
-- is read and written at address 0.
use Rattle.std.specs.Prelude.{ℕ, zero, suc, List, [], ◌∷◌, ◌++◌, Option, Some, None, Bool, cond, is_some, map, slice_get}
use Rattle.kp_ast.specs.declared.tree.{Expr.Expr, ReadStmt.ReadStmt, ResultDecl.ResultDecl, Decl.Decl, Stmt.Stmt, StmtKind.StmtKind, Job.Job}
use Rattle.kp_ast.specs.declared.tree.Decl.TheVariants as decls
use Rattle.kp_ast.specs.declared.tree.StmtKind.TheVariants as stmts
use Rattle.kp_stage.specs.Facts.{stmts_in}
use Rattle.kp_pipeline.specs.{Sequential.before_stage, Timeline.first_stage}
use Rattle.kp_machine.specs.Slots.{targets_of, pipes_of, hints_of, number_of, result_named}
use Rattle.kp_machine.specs.Trees.{Progress, entered, holds, address_of, word_of, value_of, value_with_hints, word_read, with_name, with_put, with_set, with_aim}
use Rattle.kp_machine.specs.Machine.{machine_of, is_enabled_by, address_by}
use Rattle.kp_pipeline.specs.Machine.{State}

-- For each read, in text order, its address, or None if its condition was false; for each result, in the order of
-- declaration, the address that it wrote, or None if its enable pipe was 0; and for each result its setting stage.
pub record Recorded : Type 0 where
  pub reads : List (Option ℕ)
  pub writes : List (Option ℕ)
  pub settings : List ℕ

-- this value, if a test passes
abbrev pub where_true : Bool → ℕ → Option ℕ
where_true b a = cond b (Some a) None

-- READS. The value of a read in the state s: 0 if its condition is false. A guess is of a register.
abbrev pub address_read : List Decl → Progress → ReadStmt → Option Expr → ℕ
address_read ds done r None = address_of ds done r.address
address_read ds done r (Some guess) = 0

abbrev pub value_read : List Decl → State → Progress → ReadStmt → ℕ
value_read ds s done r = cond (holds ds done r.when) (s (number_of (targets_of ds) r.target.name) (address_read ds done r r.guess)) 0

-- the progress after a statement, where each read sees the state s
abbrev pub done_after : List Decl → State → Progress → StmtKind → Progress
done_after ds s done (stmts.Read r) = with_name done r.name.name (word_read ds r (value_read ds s done r))
done_after ds s done (stmts.Let n e) = with_name done n.name (word_of ds done e)
done_after ds s done (stmts.Put n e) = with_put done (number_of (pipes_of ds) n.name) (value_of ds done e)
done_after ds s done (stmts.Set n e when) = cond (holds ds done when) (with_set ds done (result_named ds n.name) (value_of ds done e)) done
done_after ds s done (stmts.Aim n e) = with_aim done (number_of (hints_of ds) n.name) (value_with_hints ds done e)

-- a read is recorded with its address if its condition holds
abbrev pub read_recorded : List Decl → Progress → StmtKind → List (Option ℕ)
read_recorded ds done (stmts.Read r) = where_true (holds ds done r.when) (address_of ds done r.address) ∷ []
read_recorded ds done _ = []

-- the reads of these statements, given the progress before them
abbrev pub reads_recorded : List Decl → State → Progress → List Stmt → List (Option ℕ)
reads_recorded ds s done [] = []
reads_recorded ds s done (x ∷ xs) = read_recorded ds done x.kind ++ reads_recorded ds s (done_after ds s done x.kind) xs

-- the reads of stage k in the instruction on the state s with the sample values q
unfoldable pub stage_reads : Job → State → (ℕ → ℕ) → ℕ → List (Option ℕ)
stage_reads job s q k =
    reads_recorded job.decls s (entered job.decls q (before_stage (machine_of job) s q k).pipes) (stmts_in (slice_get job.blocks k))

-- those of n stages from k on
abbrev pub reads_from : Job → State → (ℕ → ℕ) → ℕ → ℕ → List (Option ℕ)
reads_from job s q zero k = []
reads_from job s q (suc n) k = stage_reads job s q k ++ reads_from job s q n (suc k)

-- RESULTS, in the order of declaration.
abbrev pub results_of : List Decl → List ResultDecl
results_of [] = []
results_of (decls.Target r ∷ ds) = r ∷ results_of ds
results_of (_ ∷ ds) = results_of ds

-- the address that a result writes, given the values of the pipes
abbrev pub write_recorded : Job → (ℕ → ℕ) → ResultDecl → Option ℕ
write_recorded job pipes r =
    where_true (is_enabled_by (pipes_of job.decls) pipes r.enable) (address_by (pipes_of job.decls) pipes r.address)

-- the setting stage of a result: the first stage after which its target has a value, or its write stage
unfoldable pub setting_recorded : Job → State → (ℕ → ℕ) → ResultDecl → ℕ
setting_recorded job s q r =
    first_stage (λ k. is_some ((before_stage (machine_of job) s q (suc k)).results (number_of (targets_of job.decls) r.target.name)))
    job.stages.value 0 r.stage.value

-- the record of the instruction on the state s with the sample values q
unfoldable pub record_of : Job → State → (ℕ → ℕ) → Recorded
record_of job s q = record {
  reads = reads_from job s q job.stages.value 0;
  writes = map (write_recorded job (before_stage (machine_of job) s q job.stages.value).pipes) (results_of job.decls);
  settings = map (setting_recorded job s q) (results_of job.decls);
}
