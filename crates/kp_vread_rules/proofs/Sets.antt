-- Look-ups in a set of names are those in its list.
use Rattle.std.proofs.Common.{◌≡◌, ◌∙◌, ℕ, List, [], ◌∷◌, Bool, true, false, cond, refl, sym, ap}
use Rattle.std.specs.{Prelude.◌||◌, Prelude.nat_eq, List.list_any, Cmp.Lexicographic.pointwise}
use Rattle.kp_net.specs.Names.{same, among}
use Rattle.kp_vread_rules.{specs.inner.Sets.Adds, proofs.StartValues.turned}

pub any_among : (ks : List (List ℕ)) (n : List ℕ) → list_any (λ k. pointwise nat_eq n k) ks ≡ among ks n
any_among [] n = refl
any_among (k ∷ ks) n = ap (λ b. same n k || b) (any_among ks n)

either : (b c : Bool) → cond b true c ≡ (b || c)
either true c = refl
either false c = refl

-- A name is added.
pub adds : (old new : List (List ℕ)) (n : List ℕ) → ((q : List ℕ) → list_any (λ k. pointwise nat_eq q k) new ≡ cond (same n q) true (list_any (λ k. pointwise nat_eq q k) old)) → Adds old new n
adds old new n h = record {
  names = λ q. sym (any_among new q) ∙ h q ∙ ap (cond (same n q) true) (any_among old q) ∙ ap (λ b. cond b true (among old q)) (turned n q) ∙ either (same q n) (among old q);
}
