-- The value of an expression, provided that each operation in it has operands of the specified widths, and each name
-- and function is known. The executable functions compute this value, since a value of a program has 1 to 64 bits.
use Rattle.std.specs.Prelude.{ℕ, ◌==◌, if◌then◌else◌, List, [], ◌∷◌, length, fold, Option, None, Some, option_map, option_and_then}
use Rattle.kp_bits.specs.Checked.{checked_literal, checked_binary, checked_mux, checked_joined, checked_slice, checked_zext, checked_sext}
use Rattle.kp_bits.specs.Word.{Word, not_of}
use Rattle.kp_ast.specs.{Expressions.Values, Expressions.look_up, Expressions.arguments_of, Expressions.is_function, declared.tree.Decl.Decl}
use Rattle.kp_ast.specs.declared.tree.{Expr.Expr, ExprKind.TheOpen.ExprKind-F, ExprKind.TheOpen.Expr-F, ExprKind.TheFolds.fold-Expr}
use Rattle.kp_ast.specs.declared.tree.Decl.TheVariants as decls
use Rattle.kp_ast.specs.declared.tree.ExprKind.TheOpen as level

-- the known values of names, and of calls with the values of their arguments
pub record Known : Type 0 where
  pub names : List ℕ → Option Word
  pub calls : List ℕ → List Word → Option Word

-- all values, if each exists
abbrev pub all_there : List (Option Word) → Option (List Word)
all_there [] = Some []
all_there (a ∷ rest) = option_and_then (λ x. option_map (λ xs. x ∷ xs) (all_there rest)) a

-- one level: the value of an expression, given those of its parts
abbrev pub checked_kind : Known → ExprKind-F (Option Word) (Option Word) → Option Word
checked_kind known (level.Lit l) = checked_literal l
checked_kind known (level.Name name) = known.names name
checked_kind known (level.Not a) = option_map not_of a
checked_kind known (level.Binary op a b) = option_and_then (λ x. option_and_then (λ y. checked_binary op x y) b) a
checked_kind known (level.Mux test a b) =
    option_and_then (λ t. option_and_then (λ x. option_and_then (λ y. checked_mux t x y) b) a) test
checked_kind known (level.Concat parts) = option_and_then checked_joined (all_there parts)
checked_kind known (level.Slice a hi lo) = option_and_then (checked_slice hi lo) a
checked_kind known (level.Zext a width) = option_and_then (checked_zext width.value) a
checked_kind known (level.Sext a width) = option_and_then (checked_sext width.value) a
checked_kind known (level.Call name args) = option_and_then (known.calls name) (all_there args)

abbrev pub checked_level : Expr-F (Option Word) (Option Word) → Option Word
checked_level e = e.kind

abbrev pub checked : Known → Expr → Option Word
checked known = fold-Expr (Option Word) (Option Word) (checked_kind known) checked_level

-- a call has as many arguments as the function has parameters
abbrev pub checked_call : (List ℕ → List Word → Option Word) → Decl → List Word → Option Word
checked_call calls (decls.Func f) args =
    if length args == length f.params then checked (record { names = look_up (arguments_of f.params args); calls = calls }) f.body else None
checked_call calls _ args = None

abbrev pub checked_calls_after : (List ℕ → List Word → Option Word) → Decl → List ℕ → List Word → Option Word
checked_calls_after calls d name args = if is_function name d then checked_call calls d args else calls name args

abbrev pub checked_calls_of : List Decl → List ℕ → List Word → Option Word
checked_calls_of ds = fold checked_calls_after (λ name args. None) ds

-- what is known after these declarations, where names have these values
abbrev pub known_of : List Decl → Values → Known
known_of ds values = record { names = look_up values; calls = checked_calls_of ds }
