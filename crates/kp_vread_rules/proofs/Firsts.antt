-- The first of a few checks.
use Rattle.std.proofs.Common.{◌≡◌, ℕ, List, [], ◌∷◌, Bool, true, false, Option, Some, None, refl}
use Rattle.kp_base.specs.First.{first}
use Rattle.kp_vread_rules.specs.{Faults.found, WidthFaults.wrong}
use Rattle.kp_vread_rules.specs.declared.fault.{Found.Found, WidthFault.WidthFault}
use Rattle.kp_vread_rules.specs.declared.fault.ModuleFault.TheVariants as modules

pub first_one : (o : Option Found) → first (o ∷ []) ≡ o
first_one None = refl
first_one (Some x) = refl

pub wrong_found : (b : Bool) (at : ℕ) (fault : WidthFault) (ys : List (Option Found)) → b ≡ false → first (wrong b at fault ∷ ys) ≡ Some (found at (modules.Width fault))
wrong_found true at fault ys e = cc
wrong_found false at fault ys e = refl

pub wrong_past : (b : Bool) (at : ℕ) (fault : WidthFault) (ys : List (Option Found)) → b ≡ true → first (wrong b at fault ∷ ys) ≡ first ys
wrong_past true at fault ys e = refl
wrong_past false at fault ys e = cc
