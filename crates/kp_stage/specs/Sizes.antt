-- E28: the expanded size of a machine, the sum over all expressions in stages, is at most 100,000.
use Rattle.std.specs.Prelude.{ℕ, ◌+◌, List, [], ◌∷◌, Option, Some, None, nat_le, sum_by}
use Rattle.kp_base.specs.{Check.Check, Check.ok, Check.wants, Check.◌>>=◌, declared.finding.Finding.Finding}
use Rattle.kp_ast.specs.{Size.size, declared.tree.Expr.Expr, declared.tree.Decl.Decl, declared.tree.Stmt.Stmt, declared.tree.StmtKind.StmtKind}
use Rattle.kp_ast.specs.declared.tree.{Block.Block, Job.Job}
use Rattle.kp_ast.specs.declared.tree.StmtKind.TheVariants as stmts
use Rattle.kp_stage.specs.declared.fault.StageFault.{StageFault}
use Rattle.kp_stage.specs.declared.fault.StageFault.TheVariants as faults

abbrev pub size_of_option : List Decl → Option Expr → ℕ
size_of_option ds None = 0
size_of_option ds (Some e) = size ds e

-- the size of the expressions in a statement
abbrev pub size_of_kind : List Decl → StmtKind → ℕ
size_of_kind ds (stmts.Read r) = size_of_option ds r.address + (size_of_option ds r.when + size_of_option ds r.guess)
size_of_kind ds (stmts.Let n e) = size ds e
size_of_kind ds (stmts.Put n e) = size ds e
size_of_kind ds (stmts.Set n e when) = size ds e + size_of_option ds when
size_of_kind ds (stmts.Aim n e) = size ds e

abbrev pub size_of_stmt : List Decl → Stmt → ℕ
size_of_stmt ds s = size_of_kind ds s.kind

abbrev pub size_of_block : List Decl → Block → ℕ
size_of_block ds b = sum_by (size_of_stmt ds) b.stmts

-- the size of a machine
abbrev pub size_of_job : Job → ℕ
size_of_job job = sum_by (size_of_block job.decls) job.blocks

-- E28 is reported at the first statement at which the sum, starting from `total`, exceeds 100,000
abbrev pub stmts_sized : List Decl → ℕ → List Stmt → Check (Finding StageFault) ℕ
stmts_sized ds total [] = ok total
stmts_sized ds total (s ∷ ss) = wants (nat_le (total + size_of_stmt ds s) 100000) (record { place = s.at; fault = faults.TooLarge }) (stmts_sized ds (total + size_of_stmt ds s) ss)

abbrev pub blocks_sized : List Decl → ℕ → List Block → Check (Finding StageFault) ℕ
blocks_sized ds total [] = ok total
blocks_sized ds total (b ∷ bs) = stmts_sized ds total b.stmts >>= (λ t. blocks_sized ds t bs)

unfoldable pub sizes_of : Job → Check (Finding StageFault) ℕ
sizes_of job = blocks_sized job.decls 0 job.blocks
