-- The target with a given number, among declarations.
use Rattle.std.proofs.Common.{◌≡◌, ◌∙◌, ℕ, zero, suc, ◌+◌, ◌-◌, ◌<◌, ◌≤◌, List, [], ◌∷◌, length, get_or, drop, refl, ap, sym, subst, arith}
use Rattle.std.proofs.lemmas.List.{drop_more, drop_all}
use Rattle.kp_ast.specs.declared.tree.Decl.{Decl}
use Rattle.kp_ast.specs.declared.tree.Decl.TheVariants as decls
use Rattle.kp_machine.specs.{Slots.Slot, Slots.targets_of, Words.no_slot}
use Rattle.kp_report.specs.States.{targets_in}

-- target n of a list that starts with d is, beyond the targets of d, the target of the rest with n minus their number
abbrev IsBehind : Decl → List Decl → ℕ → Type 0
IsBehind d rest n =
    (n - targets_in d < length (targets_of rest)) × (get_or (targets_of (d ∷ rest)) n no_slot ≡ get_or (targets_of rest) (n - targets_in d) no_slot)

one_less : (s : Slot) (ss : List Slot) (n : ℕ) → 1 ≤ n → n < suc (length ss) → (n - 1 < length ss) × (get_or (s ∷ ss) n no_slot ≡ get_or ss (n - 1) no_slot)
one_less s ss zero h k = absurd (omega (arith, h))
one_less s ss (suc n) h k = let same : n ≡ suc n - 1 = omega arith in (omega (arith, k), ap (λ (m : ℕ). get_or ss m no_slot) same)

none_less : (ss : List Slot) (n : ℕ) → n < length ss → (n - 0 < length ss) × (get_or ss n no_slot ≡ get_or ss (n - 0) no_slot)
none_less ss n k = let same : n ≡ n - 0 = omega arith in (omega (arith, k), ap (λ (m : ℕ). get_or ss m no_slot) same)

behind : (d : Decl) (rest : List Decl) (n : ℕ) → targets_in d ≤ n → n < length (targets_of (d ∷ rest)) → IsBehind d rest n
behind (decls.Reg n width start) rest m h k = one_less _ (targets_of rest) m h k
behind (decls.File n width address) rest m h k = one_less _ (targets_of rest) m h k
behind _ rest m h k = none_less (targets_of rest) m k

-- and a target with a lower number is the one that d declares
abbrev IsThere : Decl → List Decl → ℕ → Type 0
IsThere d rest n = (targets_in d ≡ 1) × (get_or (targets_of (d ∷ rest)) n no_slot ≡ get_or (targets_of (d ∷ [])) 0 no_slot)

first_of : (s : Slot) (ss : List Slot) (n : ℕ) → n < 1 → get_or (s ∷ ss) n no_slot ≡ get_or (s ∷ []) 0 no_slot
first_of s ss zero h = refl
first_of s ss (suc n) h = absurd (omega (arith, h))

there : (d : Decl) (rest : List Decl) (n : ℕ) → n < targets_in d → IsThere d rest n
there (decls.Reg n width start) rest m h = (refl, first_of _ (targets_of rest) m h)
there (decls.File n width address) rest m h = (refl, first_of _ (targets_of rest) m h)
there _ rest m h = absurd (omega (arith, h))

module _ (ds : List Decl) (i : ℕ) (x : Decl) (h : i < length ds) (is : x ≡ get_or ds i x) (n : ℕ) where
  at : drop i ds ≡ x ∷ drop (i + 1) ds
  at = drop_more ds i x h ∙ ap (λ (y : Decl). y ∷ drop (i + 1) ds) (sym is)

  counted : n < length (targets_of (drop i ds)) → n < length (targets_of (x ∷ drop (i + 1) ds))
  counted k = subst (λ (l : List Decl). n < length (targets_of l)) at k

  pub target_behind : n < length (targets_of (drop i ds)) → targets_in x ≤ n
      → (n - targets_in x < length (targets_of (drop (i + 1) ds))) × (get_or (targets_of (drop i ds)) n no_slot ≡ get_or (targets_of (drop (i + 1) ds)) (n - targets_in x) no_slot)
  target_behind k low = let p = behind x (drop (i + 1) ds) n low (counted k) in (p.0, ap (λ (l : List Decl). get_or (targets_of l) n no_slot) at ∙ p.1)

  pub target_there : n < targets_in x → (targets_in x ≡ 1) × (get_or (targets_of (drop i ds)) n no_slot ≡ get_or (targets_of (x ∷ [])) 0 no_slot)
  target_there low = let p = there x (drop (i + 1) ds) n low in (p.0, ap (λ (l : List Decl). get_or (targets_of l) n no_slot) at ∙ p.1)

-- after the last declaration there is no target
pub none_left : (ds : List Decl) (i n : ℕ) → length ds ≤ i → n < length (targets_of (drop i ds)) → ⊥
none_left ds i n h k = let none : length (targets_of (drop i ds)) ≡ 0 = ap (λ (l : List Decl). length (targets_of l)) (drop_all i ds h) in omega (arith, none, k)
