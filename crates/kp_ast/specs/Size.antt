-- The expanded size of an expression: the number of its literals, names, operators and calls, where each call also
-- counts the body of its function. It is computed without expanding anything.
use Rattle.std.specs.Prelude.{ℕ, ◌+◌, min, List, [], ◌∷◌, if◌then◌else◌, fold, sum}
use Rattle.kp_ast.specs.{Expressions.is_function, declared.tree.Decl.Decl, declared.tree.Expr.Expr}
use Rattle.kp_ast.specs.declared.tree.ExprKind.{TheOpen.ExprKind-F, TheOpen.Expr-F, TheFolds.fold-Expr}
use Rattle.kp_ast.specs.declared.tree.Decl.TheVariants as decls
use Rattle.kp_ast.specs.declared.tree.ExprKind.TheOpen as level

-- the expanded sizes of the bodies of functions, by the functions' names
abbrev pub Bodies : Type 0
Bodies = List ℕ → ℕ

-- one level: the size of an expression, given those of its parts
abbrev pub size_of_kind : Bodies → ExprKind-F ℕ ℕ → ℕ
size_of_kind bodies (level.Lit l) = 1
size_of_kind bodies (level.Name name) = 1
size_of_kind bodies (level.Not a) = 1 + a
size_of_kind bodies (level.Binary op a b) = 1 + (a + b)
size_of_kind bodies (level.Mux test a b) = 1 + (test + (a + b))
size_of_kind bodies (level.Concat parts) = 1 + sum parts
size_of_kind bodies (level.Slice a hi lo) = 1 + a
size_of_kind bodies (level.Zext a width) = 1 + a
size_of_kind bodies (level.Sext a width) = 1 + a
size_of_kind bodies (level.Call name args) = 1 + (bodies name + sum args)

abbrev pub size_of_level : Expr-F ℕ ℕ → ℕ
size_of_level e = e.kind

-- the size of an expression, given these sizes of the bodies of functions
abbrev pub size_with : Bodies → Expr → ℕ
size_with bodies = fold-Expr ℕ ℕ (size_of_kind bodies) size_of_level

-- the size of the body in a declaration, or 0 if it has none
abbrev pub body_size_of : Bodies → Decl → ℕ
body_size_of bodies (decls.Func f) = size_with bodies f.body
body_size_of bodies _ = 0

-- the bodies that are known after a declaration, given those that were known before
abbrev pub bodies_after : Bodies → Decl → Bodies
bodies_after bodies d name = if is_function name d then body_size_of bodies d else bodies name

abbrev pub no_bodies : Bodies
no_bodies name = 0

-- the bodies that are known after these declarations, in text order
abbrev pub bodies_of : List Decl → Bodies
bodies_of ds = fold bodies_after no_bodies ds

-- the expanded size of an expression after these declarations
abbrev pub size : List Decl → Expr → ℕ
size ds = size_with (bodies_of ds)

-- for each declaration the size of its body, given those before it, each counted up to 100,001
abbrev pub capped_from : Bodies → List Decl → List ℕ
capped_from bodies [] = []
capped_from bodies (d ∷ ds) = min (body_size_of bodies d) 100001 ∷ capped_from (bodies_after bodies d) ds

abbrev pub capped_bodies : List Decl → List ℕ
capped_bodies ds = capped_from no_bodies ds
