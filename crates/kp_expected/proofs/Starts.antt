-- The first classes of symbols.
use Rattle.std.proofs.Common.{ℕ, ◌≡◌, ◌==◌, List, [], ◌∷◌, ◌++◌, Bool, true, false, cond, ◌||◌, ◌&&◌, ◌⊎◌, inl, inr, refl, sym, ◌∙◌, ap, eq-eqb}
use Rattle.std.proofs.Math.{Bool.or_assoc}
use Rattle.std.proofs.lemmas.Bool.{or_cases, and_parts, and_from, or_left, or_right}
use Rattle.kp_grammar.specs.Grammar.{Terminal, Nonterminal, Action, Has, alternatives, expand, read, build}
use Rattle.kp_grammar.specs.Tables.{Tables, among, first_of, empty_of, firsts, vanishes}
use Rattle.kp_grammar.proofs.{Conditions.Decides}
use Rattle.kp_expected.specs.{Plain.Plain, Plain.PlainRules, Starts.starts, inner.Steps.Derived}

pub among-append : (c : ℕ) (xs ys : List ℕ) → among c (xs ++ ys) ≡ (among c xs || among c ys)
among-append c [] ys = refl
among-append c (x ∷ xs) ys = ap (λ b. (c == x) || b) (among-append c xs ys) ∙ sym (or_assoc (c == x) (among c xs) (among c ys))

or_false : (x : Bool) → (x || false) ≡ x
or_false true = refl
or_false false = refl

among_rest : (c : ℕ) (f : List ℕ) (s e : Bool) → among c f ≡ s → among c (cond e f []) ≡ (e && s)
among_rest c f s true h = h
among_rest c f s false h = refl

-- The first classes of a list are those that it begins with.
pub firsts_start : (t : Tables) (s : List Plain) (c : ℕ) → among c (firsts t s) ≡ starts t s c
firsts_start t [] c = refl
firsts_start t (Terminal d way ∷ s) c = or_false (c == d)
firsts_start t (Action a ∷ s) c = elim a [ ]
firsts_start t (Nonterminal n ∷ s) c =
    among-append c (first_of t n) (cond (empty_of t n) (firsts t s) [])
    ∙ ap (λ (z : Bool). among c (first_of t n) || z) (among_rest c (firsts t s) (starts t s c) (empty_of t n) (firsts_start t s c))

-- What the front of a list begins with, the list begins with;
pub front_starts : (t : Tables) (b s : List Plain) (c : ℕ) → starts t b c ≡ true → starts t (b ++ s) c ≡ true
front_starts t [] s c h = cc h
front_starts t (Terminal d way ∷ b) s c h = h
front_starts t (Action a ∷ b) s c h = elim a [ ]
front_starts t (Nonterminal n ∷ b) s c h = elim (or_cases (among c (first_of t n)) (empty_of t n && starts t b c) h) [
  | inl f ↦ or_left (among c (first_of t n)) (empty_of t n && starts t (b ++ s) c) f
  | inr e ↦
      let p = and_parts (empty_of t n) (starts t b c) e in
      or_right (among c (first_of t n)) (empty_of t n && starts t (b ++ s) c) (and_from (empty_of t n) (starts t (b ++ s) c) p.0 (front_starts t b s c p.1))
]

-- and it begins with nothing else than its front does, or, after a front that vanishes, the others.
pub starts-append : (t : Tables) (b s : List Plain) (c : ℕ) → starts t (b ++ s) c ≡ true → (among c (firsts t b) ≡ true) ⊎ ((vanishes t b ≡ true) × (starts t s c ≡ true))
starts-append t [] s c h = inr (refl, h)
starts-append t (Terminal d k ∷ b) s c h = inl (or_left (c == d) false h)
starts-append t (Action a ∷ b) s c h = starts-append t b s c h
starts-append t (Nonterminal n ∷ b) s c h = elim (or_cases (among c (first_of t n)) (empty_of t n && starts t (b ++ s) c) h) [
  | inl f ↦ inl (among-append c (first_of t n) (cond (empty_of t n) (firsts t b) []) ∙ or_left (among c (first_of t n)) (among c (cond (empty_of t n) (firsts t b) [])) f)
  | inr e ↦ let p = and_parts (empty_of t n) (starts t (b ++ s) c) e in elim (starts-append t b s c p.1) [
    | inl f ↦ inl (among-append c (first_of t n) (cond (empty_of t n) (firsts t b) []) ∙ or_right (among c (first_of t n)) (among c (cond (empty_of t n) (firsts t b) [])) (rw p.0 f))
    | inr v ↦ inr (and_from (empty_of t n) (vanishes t b) p.0 v.0, v.1)
  ]
]

module _ {C : Type 0} (number : C → ℕ) (rules : PlainRules) (t : Tables) (p : Decides rules t) where
  starts-body : (n : ℕ) (b s : List Plain) (c : ℕ) → Has b (alternatives rules n) → starts t (b ++ s) c ≡ true → starts t (Nonterminal n ∷ s) c ≡ true
  starts-body n b s c m h = elim (starts-append t b s c h) [
    | inl f ↦ or_left (among c (first_of t n)) (empty_of t n && starts t s c) (p.begins n c b m f)
    | inr v ↦ or_right (among c (first_of t n)) (empty_of t n && starts t s c) (and_from (empty_of t n) (starts t s c) (p.empties n b m v.0) v.1)
  ]

  -- A list with a sentence that begins with a class begins with it.
  pub sentence_starts : {s : List Plain} {c : C} {cs : List C} → Derived number rules s (c ∷ cs) [] [] → starts t s (number c) ≡ true
  sentence_starts {s = Nonterminal n ∷ s} {c = c} (expand b m d) = starts-body n b s (number c) m (sentence_starts d)
  sentence_starts {c = c} (read {c = d} e rest) = eq-eqb (number c) d e
  sentence_starts (build {a = a} d) = elim a [ ]
