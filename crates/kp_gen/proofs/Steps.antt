-- Checks that pass, step by step.
use Rattle.std.proofs.Common.{◌≡◌, ◌∙◌, ℕ, List, Option, Some, None, Bool, true, false, Ok, refl, ap, sym}
use Rattle.std.specs.Prelude.{not, is_some}
use Rattle.kp_base.specs.{First.first, Check.Check, Check.after, Check.bind, Check.wants, Check.◌>>=◌, declared.place.Place.Place}
use Rattle.kp_width.specs.{Faults.WidthFinding, Names.Scoped, Names.find, Names.fresh}

ok_none : {F X : Type 0} (broken : Option F) (v x : X) → after broken (Ok v) ≡ Ok x → broken ≡ None
ok_none None v x e = refl
ok_none (Some r) v x e = cc

-- a check with a result violates no rule, and this is its value
pub unbroken : {F X : Type 0} (c : Check F X) (x : X) → c.found ≡ Ok x → first c.asked ≡ None
unbroken c x e = ok_none (first c.asked) c.value x (sym c.same ∙ e)

pub then : {F X Y : Type 0} (c : Check F X) (next : X → Check F Y) (x : X) → c.found ≡ Ok x → (c >>= next).found ≡ (next x).found
then c next x e = ap (λ r. bind r (λ y. (next y).found)) e

pub holds : {F X : Type 0} (test : Bool) (finding : F) (c : Check F X) → test ≡ true → (wants test finding c).found ≡ c.found
holds true finding c e = refl
holds false finding c e = cc

pub is_fresh : {X : Type 0} (s : Scoped) (name : List ℕ) (at : Place) (next : Check WidthFinding X) → find s name ≡ None → (fresh s name at next).found ≡ next.found
is_fresh s name at next e = holds (not (is_some (find s name))) _ next (ap (λ o. not (is_some o)) e)
