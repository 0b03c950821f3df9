-- The value that is listed last is that of the state.
use Rattle.std.proofs.Common.{◌≡◌, ◌∙◌, ℕ, zero, suc, Bool, true, false, refl, sym}
use Rattle.std.{proofs.lemmas.Bool.eqb-true, specs.Prelude.◌==◌, specs.Prelude.if◌then◌else◌}
use Rattle.kp_report.specs.States.{State}
use Rattle.kp_page.specs.Claims.{listed_last}

pub listed : (visible : ℕ → State) (T t a : ℕ) → listed_last visible T t a ≡ visible T t a
listed visible zero t a = go (visible 0 t a == 0) refl
  where
    go : (b : Bool) → (visible 0 t a == 0) ≡ b → (if b then 0 else visible 0 t a) ≡ visible 0 t a
    go true e = sym (eqb-true (visible 0 t a) 0 e)
    go false e = refl
listed visible (suc T) t a = go (listed visible T t a) (visible (suc T) t a == visible T t a) refl
  where
    go : listed_last visible T t a ≡ visible T t a → (b : Bool) → (visible (suc T) t a == visible T t a) ≡ b → (if b then listed_last visible T t a else visible (suc T) t a) ≡ visible (suc T) t a
    go last true e = last ∙ sym (eqb-true (visible (suc T) t a) (visible T t a) e)
    go last false e = refl
