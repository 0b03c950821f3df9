-- The names that are used in expressions.
use Rattle.std.specs.{Prelude.ℕ, Prelude.List, Prelude.[], Prelude.◌∷◌, Prelude.◌++◌, Prelude.Option, Prelude.Some, Prelude.None, Prelude.Bool, List.flat_map, List.list_any}
use Rattle.kp_ast.specs.{Expressions.is_same_name, Expressions.names_in}
use Rattle.kp_ast.specs.declared.tree.{Expr.Expr, Decl.Decl, Stmt.Stmt, StmtKind.StmtKind, Block.Block}
use Rattle.kp_ast.specs.declared.tree.Decl.TheVariants as decls
use Rattle.kp_ast.specs.declared.tree.StmtKind.TheVariants as stmts

abbrev pub Names : Type 0
Names = List (List ℕ)

-- those in the body of a function
abbrev pub names_in_decl : Decl → Names
names_in_decl (decls.Func f) = names_in f.body
names_in_decl _ = []

abbrev pub names_in_option : Option Expr → Names
names_in_option None = []
names_in_option (Some e) = names_in e

abbrev pub names_in_kind : StmtKind → Names
names_in_kind (stmts.Read r) = names_in_option r.address ++ (names_in_option r.when ++ names_in_option r.guess)
names_in_kind (stmts.Let n e) = names_in e
names_in_kind (stmts.Put n e) = names_in e
names_in_kind (stmts.Set n e when) = names_in e ++ names_in_option when
names_in_kind (stmts.Aim n e) = names_in e

abbrev pub names_in_stmt : Stmt → Names
names_in_stmt s = names_in_kind s.kind

abbrev pub names_in_block : Block → Names
names_in_block b = flat_map names_in_stmt b.stmts

-- those in declarations and in blocks
abbrev pub names_in_both : List Decl → List Block → Names
names_in_both ds bs = flat_map names_in_decl ds ++ flat_map names_in_block bs

abbrev pub is_used : Names → List ℕ → Bool
is_used names name = list_any (is_same_name name) names
