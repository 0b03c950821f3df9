-- The parts of a job: its statements, the expressions in them, and the names that these use.
use Rattle.std.specs.Prelude.{◌≡◌, ℕ, ◌<◌, List, [], ◌∷◌, ◌++◌, Option, Some, None, Bool, false, ◌||◌, slice_get, IsTrue}
use Rattle.std.specs.List.{list_any}
use Rattle.kp_ast.specs.{Expressions.is_same_name, declared.tree.Expr.Expr, declared.tree.ExprKind.TheOpen.ExprKind-F, declared.tree.ExprKind.TheOpen.Expr-F}
use Rattle.kp_ast.specs.declared.tree.{ExprKind.TheFolds.fold-Expr, Decl.Decl, Stmt.Stmt, StmtKind.StmtKind, Job.Job}
use Rattle.kp_ast.specs.declared.tree.ExprKind.TheOpen as level
use Rattle.kp_ast.specs.declared.tree.Decl.TheVariants as decls
use Rattle.kp_ast.specs.declared.tree.StmtKind.TheVariants as stmts
use Rattle.kp_stage.specs.Facts.{stmts_in}

-- the statement of number j in stage k
abbrev pub statement_at : Job → ℕ → ℕ → Option Stmt
statement_at job k j = slice_get (stmts_in (slice_get job.blocks k)) j

-- an optional expression
abbrev pub listed : Option Expr → List Expr
listed None = []
listed (Some e) = e ∷ []

-- the expressions of a statement that are neither a guess nor an aim
abbrev pub plain_in : StmtKind → List Expr
plain_in (stmts.Read r) = listed r.address ++ listed r.when
plain_in (stmts.Let n e) = e ∷ []
plain_in (stmts.Put n e) = e ∷ []
plain_in (stmts.Set n e when) = e ∷ listed when
plain_in (stmts.Aim n e) = []

-- its guess, or its aim
abbrev pub guessed_in : StmtKind → List Expr
guessed_in (stmts.Read r) = listed r.guess
guessed_in (stmts.Aim n e) = e ∷ []
guessed_in _ = []

abbrev pub exprs_in : StmtKind → List Expr
exprs_in s = plain_in s ++ guessed_in s

-- whether a name is used as a value in an expression; the name of the function in a call isn't
abbrev pub uses_in_kind : List ℕ → ExprKind-F Bool Bool → Bool
uses_in_kind q (level.Lit l) = false
uses_in_kind q (level.Name name) = is_same_name q name
uses_in_kind q (level.Not a) = a
uses_in_kind q (level.Binary op a b) = a || b
uses_in_kind q (level.Mux test a b) = test || (a || b)
uses_in_kind q (level.Concat parts) = list_any (λ x. x) parts
uses_in_kind q (level.Slice a hi lo) = a
uses_in_kind q (level.Zext a width) = a
uses_in_kind q (level.Sext a width) = a
uses_in_kind q (level.Call name args) = list_any (λ x. x) args

abbrev pub uses_in_level : Expr-F Bool Bool → Bool
uses_in_level e = e.kind

abbrev pub uses : List ℕ → Expr → Bool
uses q = fold-Expr Bool Bool (uses_in_kind q) uses_in_level

-- whether a statement puts the pipe of this name, sets the result, or aims the hint
abbrev pub puts : List ℕ → StmtKind → Bool
puts q (stmts.Put n e) = is_same_name q n.name
puts q _ = false

abbrev pub sets : List ℕ → StmtKind → Bool
sets q (stmts.Set n e when) = is_same_name q n.name
sets q _ = false

abbrev pub aims : List ℕ → StmtKind → Bool
aims q (stmts.Aim n e) = is_same_name q n.name
aims q _ = false

-- whether a name is that of a pipe, or of a hint
abbrev pub declares_pipe : List ℕ → Decl → Bool
declares_pipe q (decls.Pipe n width) = is_same_name q n.name
declares_pipe q _ = false

abbrev pub is_pipe : Job → List ℕ → Bool
is_pipe job q = list_any (declares_pipe q) job.decls

abbrev pub declares_hint : List ℕ → Decl → Bool
declares_hint q (decls.Hint n width start) = is_same_name q n.name
declares_hint q _ = false

abbrev pub is_hint : Job → List ℕ → Bool
is_hint job q = list_any (declares_hint q) job.decls

-- a pipe is put in a stage before stage k
pub record IsPutBefore (job : Job) (q : List ℕ) (k : ℕ) : Type 0 where
  pub stage : ℕ
  pub index : ℕ
  pub stmt : Stmt
  pub stands : statement_at job stage index ≡ Some stmt
  pub puts_it : IsTrue (puts q stmt.kind)
  pub earlier : stage < k
