-- What directives give, from their parts.
use Rattle.std.proofs.Common.{◌≡◌, ℕ, List, Result, Err, ap}
use Rattle.kp_directive.specs.{Faults.Yields, declared.directive.DirectiveFault.DirectiveFault}
use Rattle.kp_directive.specs.declared.directive.DirectivesRefused.{DirectivesRefused, TheVariants.Rule, TheVariants.NoMemory}
use Rattle.kp_view.specs.Listed.{Listed, listed_by, listed_with}

module _ {T U : Type 0} (shown : U → Listed) where
  pub names_failed : (names : Result (List (List ℕ)) DirectiveFault) (label : Result (List ℕ) DirectiveFault) (e : DirectivesRefused) (value : T → List (List ℕ))
      → Yields {T = T} (Err e) names value → Yields {T = U} (Err e) (listed_by names label) shown
  names_failed names label (Rule fault) value is = ap (λ (n : Result (List (List ℕ)) DirectiveFault). listed_by n label) is
  names_failed names label NoMemory value is = tt

  pub label_failed : (names : List (List ℕ)) (label : Result (List ℕ) DirectiveFault) (e : DirectivesRefused) (value : T → List ℕ)
      → Yields {T = T} (Err e) label value → Yields {T = U} (Err e) (listed_with names label) shown
  label_failed names label (Rule fault) value is = ap (listed_with names) is
  label_failed names label NoMemory value is = tt
