-- Declarations that declare a target.
use Rattle.std.specs.Prelude.{ℕ, List, Bool, false}
use Rattle.kp_ast.specs.{Expressions.is_same_name, declared.tree.Decl.Decl}
use Rattle.kp_ast.specs.declared.tree.Decl.TheVariants as decls

abbrev pub targets_in : Decl → ℕ
targets_in (decls.Reg n width start) = 1
targets_in (decls.File n width address) = 1
targets_in _ = 0

-- it declares a target with this name
abbrev pub declares : Decl → List ℕ → Bool
declares (decls.Reg n width start) name = is_same_name name n.name
declares (decls.File n width address) name = is_same_name name n.name
declares _ name = false
