-- A table of start values, line by line.
use Rattle.std.proofs.Common.{◌≡◌, ◌∙◌, ℕ, ◌+◌, ◌<◌, List, [], ◌∷◌, length, get_or, drop, Option, refl, sym, ap, arith}
use Rattle.std.{proofs.lemmas.List.drop_more, specs.Prelude.nat_eq}
use Rattle.kp_bits.specs.declared.literal.Literal.{Literal}
use Rattle.kp_net.specs.Names.{same}
use Rattle.kp_vlog.specs.{declared.tree.Init.Init, Occurrences.start_in}
use Rattle.kp_vread_rules.specs.inner.StartValues.{StartsAt}

nat_same : (a b : ℕ) → nat_eq a b ≡ nat_eq b a
nat_same a b = grind arith

pub turned : (xs ys : List ℕ) → same xs ys ≡ same ys xs
turned [] [] = refl
turned [] (y ∷ ys) = refl
turned (x ∷ xs) [] = refl
turned (x ∷ xs) (y ∷ ys) = rw (nat_same x y, turned xs ys) refl

pub one_before : (xs : List Init) (i : ℕ) (x : Init) (old new : List ℕ → Option Literal) → i < length xs → x ≡ get_or xs i x → StartsAt old new x
    → ((n : List ℕ) → old n ≡ start_in (drop (i + 1) xs) n) → (n : List ℕ) → new n ≡ start_in (drop i xs) n
one_before xs i x old new h w s e n =
    s.starts (drop (i + 1) xs) e n ∙ ap (λ ys. start_in ys n) (sym (drop_more xs i x h ∙ ap (λ y. y ∷ drop (i + 1) xs) (sym w)))
