-- Lists of symbols have sentences, and one for each class that they begin with.
use Rattle.std.proofs.Common.{ℕ, zero, suc, ◌≡◌, ◌==◌, ◌<◌, List, [], ◌∷◌, ◌++◌, Bool, true, ◌&&◌, inl, inr, Option, Some, None, refl, sym, ◌∙◌, subst, arith}
use Rattle.std.{proofs.lemmas.Bool.and_parts, proofs.lemmas.Bool.or_cases, proofs.lemmas.Bool.eqb-true, proofs.lemmas.List.append_assoc}
use Rattle.kp_grammar.specs.Grammar.{Terminal, Nonterminal, Action, Has, alternatives, stay, expand, read, build}
use Rattle.kp_grammar.specs.Tables.{Tables, among, first_of, empty_of, pick}
use Rattle.kp_grammar.specs.Ranks.{Ranks}
use Rattle.kp_grammar.proofs.TableTests.{picks_rule}
use Rattle.kp_expected.specs.{Plain.Plain, Plain.PlainRules, Starts.starts}
use Rattle.kp_expected.specs.{Readable.ends, Readable.and_then, Readable.all_end, Readable.work, Readable.known_among, Readable.IsReadable, inner.Steps.Derived, inner.Steps.HasSentence, inner.Steps.IsReady}
use Rattle.kp_expected.proofs.{Starts.firsts_start, Starts.front_starts, Fits.begun, Fits.has_empty, Fits.lighter, Fits.ready, Fits.some_first}

class_among : {C : Type 0} (number : C → ℕ) (xs : List C) (c : ℕ) → known_among number xs c ≡ true → (x : C) × (number x ≡ c)
class_among number [] c h = cc h
class_among number (x ∷ xs) c h = elim (or_cases (number x == c) (known_among number xs c) h) [
  | inl e ↦ (x, eqb-true (number x) c e)
  | inr e ↦ class_among number xs c e
]

module _ {C : Type 0} (number : C → ℕ) (rules : PlainRules) (t : Tables) where
  module _ (classes : List C) (short : ℕ) where
    abbrev known : ℕ → Bool
    known c = known_among number classes c

    at_name : (n : ℕ) (s : List Plain) (go : List Plain → Bool) (o : Option (List Plain)) → pick rules t n short ≡ o → and_then o go ≡ true
        → ((b : List Plain) → go b ≡ true → HasSentence number rules (b ++ s)) → HasSentence number rules (Nonterminal n ∷ s)
    at_name n s go None e h rest = cc h
    at_name n s go (Some b) e h rest = let r = rest b h in (r.0, expand b (picks_rule rules t n short b e) r.1)

    -- What is read within some steps has a sentence.
    pub sentence : (k : ℕ) (s : List Plain) → ends rules t known short k s ≡ true → HasSentence number rules s
    sentence zero s h = cc h
    sentence (suc k) [] h = ([], stay)
    sentence (suc k) (Terminal c way ∷ s) h =
        let p = and_parts (known c) (ends rules t known short k s) h in
        let x = class_among number classes c p.0 in
        let r = sentence k s p.1 in (x.0 ∷ r.0, read x.1 r.1)
    sentence (suc k) (Action a ∷ s) h = cc h
    sentence (suc k) (Nonterminal n ∷ s) h = at_name n s (λ b. ends rules t known short k (b ++ s)) (pick rules t n short) refl h (λ b q. sentence k (b ++ s) q)

    pub each_ready : (s : List Plain) → all_end rules t known short s ≡ true → IsReady number rules s
    each_ready [] h = tt
    each_ready (x ∷ s) h =
        let p = and_parts (ends rules t known short 200 (x ∷ [])) (all_end rules t known short s) h in (sentence 200 (x ∷ []) p.0, each_ready s p.1)

  -- Two derivations beside each other are one.
  pub beside : {a b s : List Plain} {cs ds left : List C} → Derived number rules a cs [] [] → Derived number rules b ds s left → Derived number rules (a ++ b) (cs ++ ds) s left
  beside stay e = e
  beside {b = b} {s = s'} {cs = cs} {ds = ds} {left = left} (expand {n = n} {s = s} body m d) e =
      expand body m (subst (λ (z : List Plain). Derived number rules z (cs ++ ds) s' left) (append_assoc body s b) (beside d e))
  beside (read q d) e = read q (beside d e)
  beside (build {a = a} d) e = elim a [ ]

  pub ready-append : (a b : List Plain) → IsReady number rules a → IsReady number rules b → IsReady number rules (a ++ b)
  ready-append [] b h k = k
  ready-append (x ∷ a) b h k = (h.0, ready-append a b h.1 k)

  pub completes : (s : List Plain) → IsReady number rules s → HasSentence number rules s
  completes [] h = ([], stay)
  completes (x ∷ s) h = let r = completes s h.1 in (h.0.0 ++ r.0, beside h.0.1 r.1)

  module _ (rank : Ranks) (k : IsReadable number rules t rank) where
    pub body_ready : (n : ℕ) (b : List Plain) → Has b (alternatives rules n) → IsReady number rules b
    body_ready n b m = each_ready k.classes k.short b (ready rules t rank (known_among number k.classes) k.short k.bodies n b m)

    abbrev Begins : List Plain → C → Type 0
    Begins s c = (cs : List C) × Derived number rules s (c ∷ cs) [] []

    -- Where the symbols begin with a class, some sentence of them does.
    begins : (m : ℕ) (s : List Plain) (c : C) → work t rank s < m → IsReady number rules s → starts t s (number c) ≡ true → Begins s c
    begins zero s c h r e = absurd (omega (arith, h))
    begins (suc m) [] c h r e = cc e
    begins (suc m) (Terminal d way ∷ s) c h r e = let rest = completes s r.1 in (rest.0, read (eqb-true (number c) d e) rest.1)
    begins (suc m) (Action a ∷ s) c h r e = elim a [ ]
    begins (suc m) (Nonterminal n ∷ s) c h r e = elim (or_cases (among (number c) (first_of t n)) (empty_of t n && starts t s (number c)) e) [
      | inl f ↦
          let b = begun t (number c) (alternatives rules n) (some_first rules t t n (number c) k.exact f) in
          let small = lighter number rules t rank k n b.0 s b.1 in
          let lower : work t rank (b.0 ++ s) < m = omega (arith, small, h) in
          let rest = begins m (b.0 ++ s) c lower (ready-append b.0 s (body_ready n b.0 b.1) r.1) (front_starts t b.0 s (number c) (sym (firsts_start t b.0 (number c)) ∙ b.2)) in
          (rest.0, expand b.0 b.1 rest.1)
      | inr f ↦
          let p = and_parts (empty_of t n) (starts t s (number c)) f in
          let has = has_empty rules t n k.exact p.0 in
          let small = lighter number rules t rank k n [] s has in
          let lower : work t rank s < m = omega (arith, small, h) in
          let rest = begins m s c lower r.1 p.1 in
          (rest.0, expand [] has rest.1)
    ]

    pub starts_sentence : (s : List Plain) (c : C) → IsReady number rules s → starts t s (number c) ≡ true → Begins s c
    starts_sentence s c r e = let small : work t rank s < suc (work t rank s) = omega arith in begins (suc (work t rank s)) s c small r e
