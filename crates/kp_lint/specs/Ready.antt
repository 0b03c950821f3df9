-- The first stage in which the value of an expression over pipes can be computed.
use Rattle.std.specs.Prelude.{ℕ, ◌+◌, List, [], ◌∷◌, Option, Some, None, max}
use Rattle.kp_ast.specs.declared.tree.{Expr.Expr, ExprKind.TheOpen.ExprKind-F, ExprKind.TheOpen.Expr-F, ExprKind.TheFolds.fold-Expr}
use Rattle.kp_ast.specs.declared.tree.{Stmt.Stmt, StmtKind.StmtKind, Block.Block}
use Rattle.kp_ast.specs.declared.tree.ExprKind.TheOpen as level
use Rattle.kp_ast.specs.declared.tree.StmtKind.TheVariants as stmts
use Rattle.kp_lint.specs.Tables.{with_first}

-- the first stage in which each pipe can be used: that after its first put
abbrev pub Known : Type 0
Known = List ℕ → Option ℕ

abbrev pub after_stmt : ℕ → Known → StmtKind → Known
after_stmt k known (stmts.Put n e) = with_first known n.name k
after_stmt k known _ = known

abbrev pub after_stmts : ℕ → Known → List Stmt → Known
after_stmts k known [] = known
after_stmts k known (s ∷ ss) = after_stmts k (after_stmt k known s.kind) ss

-- the blocks from stage k on
abbrev pub after_blocks : ℕ → Known → List Block → Known
after_blocks k known [] = known
after_blocks k known (b ∷ bs) = after_blocks (k + 1) (after_stmts (k + 1) known b.stmts) bs

abbrev pub known_in : List Block → Known
known_in bs = after_blocks 0 (λ name. None) bs

-- the later of two stages, where both are known
abbrev pub later : Option ℕ → Option ℕ → Option ℕ
later None b = None
later (Some a) None = None
later (Some a) (Some b) = Some (max a b)

abbrev pub latest : Option ℕ → List (Option ℕ) → Option ℕ
latest stage [] = stage
latest stage (s ∷ ss) = latest (later stage s) ss

-- A literal is known in stage 0, and another name than that of a pipe in no stage.
abbrev pub ready_kind : Known → ExprKind-F (Option ℕ) (Option ℕ) → Option ℕ
ready_kind known (level.Lit l) = Some 0
ready_kind known (level.Name name) = known name
ready_kind known (level.Not a) = a
ready_kind known (level.Binary op a b) = later a b
ready_kind known (level.Mux test a b) = later test (later a b)
ready_kind known (level.Concat parts) = latest (Some 0) parts
ready_kind known (level.Slice a hi lo) = a
ready_kind known (level.Zext a width) = a
ready_kind known (level.Sext a width) = a
ready_kind known (level.Call name args) = latest (Some 0) args

abbrev pub ready_level : Expr-F (Option ℕ) (Option ℕ) → Option ℕ
ready_level e = e.kind

abbrev pub ready : Known → Expr → Option ℕ
ready known = fold-Expr (Option ℕ) (Option ℕ) (ready_kind known) ready_level
