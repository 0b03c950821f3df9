-- What it means that an expression has its width.
use Rattle.std.specs.Prelude.{◌≡◌, ℕ, ◌+◌, List, [], ◌∷◌, length, Some, true}
use Rattle.kp_bits.specs.Word.{Word, IsWord}
use Rattle.kp_ast.specs.{declared.tree.Param.Param, declared.tree.Decl.Decl, Expressions.Env}
use Rattle.kp_width.specs.{Names.Sense, Names.is_value_in, Names.is_callee, Names.Scoped, Names.find, Expressions.params_of, Expressions.width_at}

-- a word of this width
pub record HasWidth (w : ℕ) (v : Word) : Type 0 where
  pub word : IsWord v
  pub width : v.width ≡ w

-- values for the parameters from the one of this number on, each a word of its width
abbrev pub FitFrom : List Param → ℕ → List Word → Type 0
FitFrom ps i [] = Unit {0}
FitFrom ps i (v ∷ vs) = HasWidth (width_at ps i) v × FitFrom ps (i + 1) vs

-- arguments of a call: one for each parameter
pub record AreArguments (ps : List Param) (vs : List Word) : Type 0 where
  pub count : length vs ≡ length ps
  pub fit : FitFrom ps 0 vs

-- an environment has a word of its width for each name that may occur in an expression here, and for each call with
-- fitting arguments
pub record Suits (ds : List Decl) (s : Scoped) (env : Env) : Type 0 where
  pub names : (q : List ℕ) (m : Sense) → find s q ≡ Some m → is_value_in s.here m.kind ≡ true → HasWidth m.width (env.names q)
  pub calls : (q : List ℕ) (m : Sense) → find s q ≡ Some m → is_callee m.kind ≡ true → (vs : List Word) → AreArguments (params_of ds m.from) vs → HasWidth m.width (env.calls q vs)
