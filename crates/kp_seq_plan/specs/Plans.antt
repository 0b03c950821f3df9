-- The meaning of a resolved expression, given the values under its indices.
use Rattle.std.specs.Prelude.{◌≡◌, ◌≤◌, ◌<◌, ◌+◌, ℕ, length, List, map, sum, sum_by, Option, Some}
use Rattle.std.specs.Option.{option_map, option_and_then}
use Rattle.kp_bits.specs.Word.{Word, not_of}
use Rattle.kp_bits.specs.Checked.{checked_binary, checked_mux, checked_joined, checked_slice, checked_zext, checked_sext}
use Rattle.kp_ast.specs.Checked.{Known, checked, checked_call, checked_calls_of, all_there}
use Rattle.kp_ast.specs.{Size.size, Size.bodies_of, Size.body_size_of, inner.Sizes.sizes_with, declared.tree.Decl.Decl, declared.tree.Expr.Expr}
use Rattle.kp_seq_plan.specs.declared.{plan.Plan.Plan, plan.Plan.TheOpen.Plan-F, plan.Plan.TheFolds.fold-Plan, resolve.Scope.Scope}
use Rattle.kp_seq_plan.specs.Names.{at_place, place_of}
use Rattle.kp_seq_plan.specs.declared.plan.Plan.TheOpen as level

-- the optional values by index
abbrev pub Slots : Type 0
Slots = List (Option Word)

-- one level: the value of a plan, given those of its parts, for these values by index
abbrev pub meaning_level : Plan-F (Slots → Option Word) → Slots → Option Word
meaning_level (level.Word w) s = w
meaning_level (level.Name place) s = at_place s place
meaning_level (level.Not a) s = option_map not_of (a s)
meaning_level (level.Binary op a b) s = option_and_then (λ x. option_and_then (λ y. checked_binary op x y) (b s)) (a s)
meaning_level (level.Mux test a b) s =
    option_and_then (λ t. option_and_then (λ x. option_and_then (λ y. checked_mux t x y) (b s)) (a s)) (test s)
meaning_level (level.Concat parts) s = option_and_then checked_joined (all_there (map (λ p. p s) parts))
meaning_level (level.Slice a hi lo) s = option_and_then (checked_slice hi lo) (a s)
meaning_level (level.Zext a width) s = option_and_then (checked_zext width) (a s)
meaning_level (level.Sext a width) s = option_and_then (checked_sext width) (a s)
meaning_level (level.Call args body) s = option_and_then (λ vs. body (map Some vs)) (all_there (map (λ p. p s) args))

-- the value of a plan
abbrev pub meaning : Plan → Slots → Option Word
meaning = fold-Plan (Slots → Option Word) meaning_level

-- one level: an upper bound on how many values of parts and arguments are stored at a time
abbrev pub space_level : Plan-F ℕ → ℕ
space_level (level.Not a) = a
space_level (level.Binary op a b) = a + b
space_level (level.Mux test a b) = test + (a + b)
space_level (level.Concat parts) = length parts + sum parts
space_level (level.Slice a hi lo) = a
space_level (level.Zext a width) = a
space_level (level.Sext a width) = a
space_level (level.Call args body) = body + (length args + sum args)
space_level _ = 0

abbrev pub space : Plan → ℕ
space = fold-Plan ℕ space_level

-- the known values of names, given the values under their indices, and of calls of the functions of these declarations
abbrev pub known_by : List Decl → Scope → Slots → Known
known_by ds scope slots = record { names = λ q. at_place slots (place_of scope q); calls = checked_calls_of ds }

-- a plan has the value of an expression, whatever the values under its indices are
pub record Means (ds : List Decl) (scope : Scope) (e : Expr) (p : Plan) : Type 0 where
  pub value : (slots : Slots) → meaning p slots ≡ checked (known_by ds scope slots) e
  pub space : space p < size ds e

-- so do the plans of several expressions
pub record AllMean (ds : List Decl) (scope : Scope) (es : List Expr) (ps : List Plan) : Type 0 where
  pub values : (slots : Slots) → map (λ p. meaning p slots) ps ≡ map (checked (known_by ds scope slots)) es
  pub space : length ps + sum_by space ps ≤ sizes_with (bodies_of ds) es

-- a plan has the value of a call with the values of these plans
pub record MeansCall (ds : List Decl) (name : List ℕ) (args : List Plan) (p : Plan) : Type 0 where
  pub value : (slots : Slots) → meaning p slots ≡ option_and_then (checked_calls_of ds name) (all_there (map (λ a. meaning a slots) args))
  pub space : space p ≤ bodies_of ds name + (length args + sum_by space args)

pub record MeansBody (earlier : List Decl) (d : Decl) (args : List Plan) (p : Plan) : Type 0 where
  pub value : (slots : Slots) → meaning p slots ≡ option_and_then (checked_call (checked_calls_of earlier) d) (all_there (map (λ a. meaning a slots) args))
  pub space : space p ≤ body_size_of (bodies_of earlier) d + (length args + sum_by space args)
