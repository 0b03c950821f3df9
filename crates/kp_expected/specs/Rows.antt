-- The rows of a table in code.
use Rattle.std.specs.Prelude.{ℕ, ◌≡◌, map}
use Rattle.kp_grammar.specs.{Grammar.alternatives, Tables.Tables, Tables.first_of, Tables.empty_of}
use Rattle.kp_expected.specs.{Plain.PlainRules, Plain.plain_symbol, declared.class.Rule.Rule}

-- The row is that of the name in the rules and in the first sets of the grammar.
pub record IsRowOf {C P : Type 0} (number : C → ℕ) (name : P → ℕ) (rules : PlainRules) (t : Tables) (p : P) (r : Rule C P) : Type 0 where
  pub alternatives_are : map (λ a. map (plain_symbol number name) a.now) r.alternatives.now ≡ alternatives rules (name p)
  pub first_is : map number r.first.now ≡ first_of t (name p)
  pub empty_is : r.is_nullable ≡ empty_of t (name p)
