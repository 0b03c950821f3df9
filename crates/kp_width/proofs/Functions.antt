-- A job has no more functions than declarations.
use Rattle.std.proofs.{Common.◌≤◌, Common.length, Common.List, Common.[], Common.◌∷◌, Common.arith, lemmas.List.Sums.sum_by-cons}
use Rattle.std.specs.Prelude.{sum_by}
use Rattle.kp_ast.specs.declared.tree.Decl.{Decl}
use Rattle.kp_ast.specs.declared.tree.Decl.TheVariants as decls
use Rattle.kp_width.specs.Declarations.{functions_in}

at_most_one : (d : Decl) → functions_in d ≤ 1
at_most_one (decls.Func f) = omega arith
at_most_one x = omega arith

pub functions_within : (ds : List Decl) → sum_by functions_in ds ≤ length ds
functions_within [] = omega arith
functions_within (d ∷ ds) =
    let split = sum_by-cons functions_in d ds in
    omega (arith, split, at_most_one d, functions_within ds)
