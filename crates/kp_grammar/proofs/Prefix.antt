-- A derivation reads tokens from the front, and doesn't look at those that are left.
use Rattle.std.proofs.Common.{◌≡◌, ◌≤◌, List, [], ◌∷◌, ◌++◌, length, refl, ap, arith}
use Rattle.kp_grammar.specs.Grammar.{Symbol, Grammar, Derives, stay, expand, read, build}

-- A derivation never returns tokens.
pub shorter : {W B X S : Type 0} {g : Grammar W B X S} {s : List (Symbol W B)} {v : S} {ts : List X} {s' : List (Symbol W B)} {v' : S} {left : List X} → Derives g s v ts s' v' left → length left ≤ length ts
shorter stay = omega arith
shorter (expand b m d) = shorter d
shorter (read {ts = ts} e d) = let h = shorter d in omega arith
shorter (build d) = shorter d

module _ {W B X S : Type 0} (g : Grammar W B X S) where
  -- The tokens that it reads precede the remaining ones, and it reads the same before any other tokens.
  pub front_alone : {s : List (Symbol W B)} {v : S} {ts : List X} {s' : List (Symbol W B)} {v' : S} {left : List X} → Derives g s v ts s' v' left
      → (front : List X) × (ts ≡ front ++ left) × ((other : List X) → Derives g s v (front ++ other) s' v' other)
  front_alone stay = ([], refl, λ other. stay)
  front_alone (expand b m d) = let h = front_alone d in (h.0, h.1, λ other. expand b m (h.2 other))
  front_alone (read {t = x} e d) = let h = front_alone d in (x ∷ h.0, ap (λ (z : List X). x ∷ z) h.1, λ other. read e (h.2 other))
  front_alone (build d) = let h = front_alone d in (h.0, h.1, λ other. build (h.2 other))

  -- Derivations follow on one another.
  pub after : {s : List (Symbol W B)} {v : S} {ts : List X} {s' : List (Symbol W B)} {v' : S} {left : List X} {s'' : List (Symbol W B)} {v'' : S} {left' : List X}
      → Derives g s v ts s' v' left → Derives g s' v' left s'' v'' left' → Derives g s v ts s'' v'' left'
  after stay e = e
  after (expand b m d) e = expand b m (after d e)
  after (read h d) e = read h (after d e)
  after (build d) e = build (after d e)
