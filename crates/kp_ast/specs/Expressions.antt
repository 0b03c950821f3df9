-- The meaning of an expression: its value, given an environment with the values of names and calls.
use Rattle.std.specs.Prelude.{◌≡◌, ℕ, Bool, false, List, [], ◌∷◌, ◌++◌, if◌then◌else◌, nat_eq, Option, unwrap_or, fold, map}
use Rattle.std.specs.{List.zip, List.flat_map, Map.lookup, Cmp.Lexicographic.pointwise}
use Rattle.kp_bits.specs.Operators.{no_word, binary_of, joined_of}
use Rattle.kp_bits.specs.Word.{Word, word, not_of, mux_of, slice_of, zext_of, sext_of}
use Rattle.kp_ast.specs.declared.tree.{Param.Param, FuncDecl.FuncDecl, Decl.Decl, Expr.Expr, ExprKind.TheOpen.ExprKind-F, ExprKind.TheOpen.Expr-F}
use Rattle.kp_ast.specs.declared.tree.ExprKind.TheFolds.{fold-Expr}
use Rattle.kp_ast.specs.declared.tree.Decl.TheVariants as decls
use Rattle.kp_ast.specs.declared.tree.ExprKind.TheOpen as level

-- the values of names, and of calls of functions with the values of their arguments
abbrev pub Names : Type 0
Names = List ℕ → Word

abbrev pub Calls : Type 0
Calls = List ℕ → List Word → Word

pub record Env : Type 0 where
  pub names : Names
  pub calls : Calls

-- two names are the same if their bytes are equal
abbrev pub is_same_name : List ℕ → List ℕ → Bool
is_same_name a b = pointwise nat_eq a b

-- one level: the value of an expression, given those of its parts
abbrev pub value_of_kind : Env → ExprKind-F Word Word → Word
value_of_kind env (level.Lit l) = word l.width l.value
value_of_kind env (level.Name name) = env.names name
value_of_kind env (level.Not a) = not_of a
value_of_kind env (level.Binary op a b) = binary_of op a b
value_of_kind env (level.Mux test a b) = mux_of test a b
value_of_kind env (level.Concat parts) = joined_of parts
value_of_kind env (level.Slice a hi lo) = slice_of a hi lo
value_of_kind env (level.Zext a width) = zext_of a width.value
value_of_kind env (level.Sext a width) = sext_of a width.value
value_of_kind env (level.Call name args) = env.calls name args

abbrev pub value_of_level : Expr-F Word Word → Word
value_of_level e = e.kind

-- the value of an expression
abbrev pub eval : Env → Expr → Word
eval env = fold-Expr Word Word (value_of_kind env) value_of_level

-- names that have values, as a list; the first entry with a name counts
abbrev pub Values : Type 0
Values = List (List ℕ × Word)

abbrev pub look_up : Values → List ℕ → Option Word
look_up values name = lookup (is_same_name name) values

abbrev pub names_of : Values → Names
names_of values name = unwrap_or (look_up values name) no_word

-- the parameters, each with the value of the corresponding argument
abbrev pub arguments_of : List Param → List Word → Values
arguments_of params args = zip (map (λ p. p.name.name) params) args

-- the value of a call of this function: that of its body, where the parameters have the arguments' values, and the
-- calls in the body are those of the functions before
abbrev pub value_of_call : Calls → FuncDecl → List Word → Word
value_of_call calls f args = eval (record { names = names_of (arguments_of f.params args); calls = calls }) f.body

-- whether a declaration is that of the function with this name
abbrev pub is_function : List ℕ → Decl → Bool
is_function name (decls.Func f) = is_same_name f.name.name name
is_function name _ = false

-- the value of a call of the declared function
abbrev pub value_of_decl : Calls → Decl → List Word → Word
value_of_decl calls (decls.Func f) args = value_of_call calls f args
value_of_decl calls _ args = no_word

-- the calls that are known after a declaration, given those that were known before
abbrev pub calls_after : Calls → Decl → Calls
calls_after calls d name args = if is_function name d then value_of_decl calls d args else calls name args

abbrev pub no_calls : Calls
no_calls name args = no_word

-- the calls that are known after these declarations, in text order: each function knows those before it
abbrev pub calls_of : List Decl → Calls
calls_of ds = fold calls_after no_calls ds

-- the environment of an expression after these declarations, where names have these values
abbrev pub env_of : List Decl → Values → Env
env_of ds values = record { names = names_of values; calls = calls_of ds }

-- the names that occur in an expression, with those of the functions that it calls, in text order
abbrev pub names_in_kind : ExprKind-F (List (List ℕ)) (List (List ℕ)) → List (List ℕ)
names_in_kind (level.Lit l) = []
names_in_kind (level.Name name) = name ∷ []
names_in_kind (level.Not a) = a
names_in_kind (level.Binary op a b) = a ++ b
names_in_kind (level.Mux test a b) = test ++ (a ++ b)
names_in_kind (level.Concat parts) = flat_map (λ names. names) parts
names_in_kind (level.Slice a hi lo) = a
names_in_kind (level.Zext a width) = a
names_in_kind (level.Sext a width) = a
names_in_kind (level.Call name args) = name ∷ flat_map (λ names. names) args

abbrev pub names_in_level : Expr-F (List (List ℕ)) (List (List ℕ)) → List (List ℕ)
names_in_level e = e.kind

abbrev pub names_in : Expr → List (List ℕ)
names_in = fold-Expr (List (List ℕ)) (List (List ℕ)) names_in_kind names_in_level

-- two environments agree on the value of a name, and on its calls
pub record IsSameAt (a b : Env) (name : List ℕ) : Type 0 where
  pub value : a.names name ≡ b.names name
  pub call : (args : List Word) → a.calls name args ≡ b.calls name args
