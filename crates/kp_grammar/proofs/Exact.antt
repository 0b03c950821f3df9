-- The machine stops at exactly the first wrong token, and accepts with exactly what the sentence builds.
use Rattle.std.proofs.Common.{ℕ, suc, ◌≡◌, ◌==◌, ◌<◌, ◌≤◌, List, [], ◌∷◌, ◌++◌, length, Bool, true, false, cond, ◌||◌, ◌&&◌, Some, refl, sym, ◌∙◌, subst, arith, ◌⊎◌, inl, inr, eq-eqb, ap}
use Rattle.std.proofs.Math.{Nat.eq-or-lt_of_le, Bool.or_assoc}
use Rattle.std.proofs.lemmas.Bool.{or_cases, and_parts, and_from, or_left, or_right}
use Rattle.kp_grammar.specs.Machine.{Outcome, Accepts, Stops, Exceeds, look, Leads, accept, more, goes, take, make, wrong, lost, exceed}
use Rattle.kp_grammar.specs.Grammar.{Symbol, Terminal, Nonterminal, Action, alternatives, Has, Grammar, Derives, stay, expand, read, build}
use Rattle.kp_grammar.specs.Tables.{Tables, among, first_of, empty_of, after_of, firsts, vanishes, pick}
use Rattle.kp_grammar.proofs.Conditions.{Follows, Decides}

among-append : (c : ℕ) (xs ys : List ℕ) → among c (xs ++ ys) ≡ (among c xs || among c ys)
among-append c [] ys = refl
among-append c (x ∷ xs) ys = ap (λ b. (c == x) || b) (among-append c xs ys) ∙ sym (or_assoc (c == x) (among c xs) (among c ys))

-- the first classes of a stack; the end of the text counts as class 0
abbrev pub starts : {W B : Type 0} → Tables → List (Symbol W B) → ℕ → Bool
starts t [] c = c == 0
starts t (Terminal d k ∷ s) c = c == d
starts t (Nonterminal n ∷ s) c = among c (first_of t n) || (empty_of t n && starts t s c)
starts t (Action a ∷ s) c = starts t s c

abbrev pub IsGood : {W B : Type 0} → Tables → List (Symbol W B) → Type 0
IsGood t [] = Unit {0}
IsGood t (Nonterminal n ∷ s) = ((c : ℕ) → starts t s c ≡ true → among c (after_of t n) ≡ true) × IsGood t s
IsGood t (x ∷ s) = IsGood t s

starts-append : {W B : Type 0} → (t : Tables) (b s : List (Symbol W B)) (c : ℕ) → starts t (b ++ s) c ≡ true
    → (among c (firsts t b) ≡ true) ⊎ ((vanishes t b ≡ true) × (starts t s c ≡ true))
starts-append t [] s c h = inr (refl, h)
starts-append t (Terminal d k ∷ b) s c h = inl (or_left (c == d) false h)
starts-append t (Action a ∷ b) s c h = starts-append t b s c h
starts-append t (Nonterminal n ∷ b) s c h = elim (or_cases (among c (first_of t n)) (empty_of t n && starts t (b ++ s) c) h) [
  | inl f ↦ inl (among-append c (first_of t n) (cond (empty_of t n) (firsts t b) []) ∙ or_left (among c (first_of t n)) (among c (cond (empty_of t n) (firsts t b) [])) f)
  | inr e ↦ let p = and_parts (empty_of t n) (starts t (b ++ s) c) e in elim (starts-append t b s c p.1) [
    | inl f ↦ inl (among-append c (first_of t n) (cond (empty_of t n) (firsts t b) []) ∙ or_right (among c (first_of t n)) (among c (cond (empty_of t n) (firsts t b) [])) (rw p.0 f))
    | inr v ↦ inr (and_from (empty_of t n) (vanishes t b) p.0 v.0, v.1)
  ]
]

good-append : {W B : Type 0} → (t : Tables) (after : List ℕ) (b s : List (Symbol W B)) → Follows t after b
    → ((c : ℕ) → starts t s c ≡ true → among c after ≡ true) → IsGood t s → IsGood t (b ++ s)
good-append t after [] s f h g = g
good-append t after (Nonterminal n ∷ b) s f h g = (
  (λ c e. elim (starts-append t b s c e) [ inl i ↦ f.0 c i | inr v ↦ f.1 v.0 c (h c v.1) ]),
  good-append t after b s f.2 h g,
)
good-append t after (x ∷ b) s f h g = good-append t after b s f h g

reads_or_not : {a b : ℕ} → a ≤ b → (a ≡ b) ⊎ (a < b)
reads_or_not {a} {b} h = eq-or-lt_of_le h

module _ {W B X S : Type 0} (g : Grammar W B X S) (t : Tables) (p : Decides g.rules t) where
  good-body : (n : ℕ) (b s : List (Symbol W B)) → Has b (alternatives g.rules n) → IsGood t (Nonterminal n ∷ s) → IsGood t (b ++ s)
  good-body n b s m h = good-append t (after_of t n) b s (p.follows n b m) h.0 h.1

  starts-body : (n : ℕ) (b s : List (Symbol W B)) (c : ℕ) → Has b (alternatives g.rules n) → starts t (b ++ s) c ≡ true → starts t (Nonterminal n ∷ s) c ≡ true
  starts-body n b s c m h = elim (starts-append t b s c h) [
    | inl f ↦ or_left (among c (first_of t n)) (empty_of t n && starts t s c) (p.begins n c b m f)
    | inr v ↦ or_right (among c (first_of t n)) (empty_of t n && starts t s c) (and_from (empty_of t n) (starts t s c) (p.empties n b m v.0) v.1)
  ]

  picked : (n : ℕ) (b s : List (Symbol W B)) (c : ℕ) → Has b (alternatives g.rules n) → IsGood t (Nonterminal n ∷ s) → starts t (b ++ s) c ≡ true → pick g.rules t n c ≡ Some b
  picked n b s c m h e = elim (starts-append t b s c e) [
    | inl f ↦ p.picks n c b m f
    | inr v ↦ p.picks_empty n c b m v.0 (h.0 c v.1)
  ]

  -- a run that reads a token, or ends with the text and an empty stack, starts as the stack does
  starts_run : {s : List (Symbol W B)} {v : S} {ts : List X} {s' : List (Symbol W B)} {v' : S} {r : List X} → Derives g s v ts s' v' r
      → (length r < length ts) ⊎ ((r ≡ []) × (s' ≡ [])) → starts t s (look g ts) ≡ true
  starts_run {ts = ts} stay h = elim h [ inl l ↦ absurd (omega arith) | inr e ↦ rw (e.0, e.1) refl ]
  starts_run {s = Nonterminal n ∷ s} {ts = ts} (expand b m d) h = starts-body n b s (look g ts) m (starts_run d h)
  starts_run {s = Terminal c k ∷ s} (read {t = x} e d) h = eq-eqb (g.class x) c e
  starts_run (build d) h = starts_run d h

  -- a derivation never returns tokens
  shorter : {s : List (Symbol W B)} {v : S} {ts : List X} {s' : List (Symbol W B)} {v' : S} {r : List X} → Derives g s v ts s' v' r → length r ≤ length ts
  shorter stay = omega arith
  shorter (expand b m d) = shorter d
  shorter (read {ts = ts} e d) = let h = shorter d in omega arith
  shorter (build d) = shorter d

  -- A sentence builds one state.
  pub unique : {s : List (Symbol W B)} {v w w' : S} {ts : List X} → Derives g s v ts [] w [] → IsGood t s → Derives g s v ts [] w' [] → w ≡ w'
  unique stay q stay = refl
  unique {v = v} {w' = w'} {ts = ts} (expand {n = n} {s = s} b m d) q (expand c m' d') =
      let first = picked n b s (look g ts) m q (starts_run d (inr (refl, refl))) in
      let second = picked n c s (look g ts) m' q (starts_run d' (inr (refl, refl))) in
      let same : c ≡ b = cc (first, second) in
      unique d (good-body n b s m q) (subst (λ (z : List (Symbol W B)). Derives g (z ++ s) v ts [] w' []) same d')
  unique (read e d) q (read e' d') = unique d q d'
  unique (build d) q (build d') = unique d q d'

  module _ (over : S → Bool) where
    pub fits : {s : List (Symbol W B)} {v : S} {ts : List X} {k : ℕ} → Leads g over t s v ts (Stops k) → k ≤ length ts
    fits (goes b e l) = fits l
    fits (take {xs = xs} e f l) = let h = fits l in omega arith
    fits (make l) = fits l
    fits x = omega arith

    module _ (picks_rule : (n c : ℕ) (b : List (Symbol W B)) → pick g.rules t n c ≡ Some b → Has b (alternatives g.rules n)) where
      -- What is accepted is a sentence that builds this.
      pub accepted : {s : List (Symbol W B)} {v w : S} {ts : List X} → Leads g over t s v ts (Accepts w) → Derives g s v ts [] w []
      accepted accept = stay
      accepted (goes {n = n} {xs = xs} b e l) = expand b (picks_rule n (look g xs) b e) (accepted l)
      accepted (take e f l) = read e (accepted l)
      accepted (make l) = build (accepted l)

      -- A derivation leads to the position where the machine stops.
      pub reached : {s : List (Symbol W B)} {v : S} {ts : List X} {k : ℕ} → Leads g over t s v ts (Stops k)
          → (s' : List (Symbol W B)) × (v' : S) × (r : List X) × (length r ≡ k) × Derives g s v ts s' v' r
      reached (goes {n = n} {xs = xs} b e l) = let h = reached l in (h.0, h.1, h.2, h.3, expand b (picks_rule n (look g xs) b e) h.4)
      reached (take e f l) = let h = reached l in (h.0, h.1, h.2, h.3, read e h.4)
      reached (make l) = let h = reached l in (h.0, h.1, h.2, h.3, build h.4)
      reached {s = s} {v = v} {ts = ts} x = (s, v, ts, refl, stay)

      pub reached_excess : {s : List (Symbol W B)} {v : S} {ts : List X} {k : ℕ} → Leads g over t s v ts (Exceeds k)
          → (s' : List (Symbol W B)) × (v' : S) × (r : List X) × (suc (length r) ≡ k) × (over v' ≡ true) × Derives g s v ts s' v' r
      reached_excess (goes {n = n} {xs = xs} b e l) = let h = reached_excess l in (h.0, h.1, h.2, h.3, h.4, expand b (picks_rule n (look g xs) b e) h.5)
      reached_excess (take e f l) = let h = reached_excess l in (h.0, h.1, h.2, h.3, h.4, read e h.5)
      reached_excess (make l) = let h = reached_excess l in (h.0, h.1, h.2, h.3, h.4, build h.5)
      reached_excess {ts = x ∷ xs} (exceed {c = c} {way = k} {s = s} {v = v} e f) = (s, g.reads k x v, xs, refl, f, read e stay)

    -- No derivation leads beyond the position where it stops, and none ends there.
    pub unreached : {s : List (Symbol W B)} {v : S} {ts : List X} {k : ℕ} {s' : List (Symbol W B)} {v' : S} {r : List X}
        → Leads g over t s v ts (Stops k) → IsGood t s → Derives g s v ts s' v' r → (length r < k) ⊎ ((r ≡ []) × (s' ≡ [])) → ⊥
    unreached more q stay h = elim h [ inl l ↦ omega arith | inr e ↦ cc ]
    unreached (goes b e l) q stay h = elim h [ inl i ↦ (let f = fits l in omega arith) | inr i ↦ cc ]
    unreached {v = v} {k = k} {s' = s'} {v' = v'} {r = r} (goes {n = n} {s = s} {xs = xs} b e l) q (expand c m d) h =
        let f = fits l in
        let w : (length r < length xs) ⊎ ((r ≡ []) × (s' ≡ [])) = elim h [ inl i ↦ inl (omega arith) | inr i ↦ inr i ] in
        let same : c ≡ b = cc (e, picked n c s (look g xs) m q (starts_run d w)) in
        unreached l (good-body n b s (rw same at m) q) (subst (λ (z : List (Symbol W B)). Derives g (z ++ s) v xs s' v' r) same d) h
    unreached (take e f l) q stay h = elim h [ inl i ↦ (let j = fits l in omega arith) | inr i ↦ cc ]
    unreached (take e f l) q (read e' d) h = unreached l q d h
    unreached (make l) q stay h = elim h [ inl i ↦ (let j = fits l in omega arith) | inr i ↦ cc ]
    unreached (make l) q (build d) h = unreached l q d h
    unreached (wrong e) q (read e' d) h = e e'
    unreached (lost {n = n} {s = s} {xs = xs} e) q (expand c m d) h = cc (e, picked n c s (look g xs) m q (starts_run d h))
    unreached x q stay h = elim h [ inl i ↦ omega arith | inr i ↦ cc ]

    -- A sentence builds only what was accepted.
    pub only : {s : List (Symbol W B)} {v w : S} {ts : List X} {v' : S} → Leads g over t s v ts (Accepts w) → IsGood t s → Derives g s v ts [] v' [] → v' ≡ w
    only accept q stay = refl
    only {v = v} {v' = v'} (goes {n = n} {s = s} {xs = xs} b e l) q (expand c m d) =
        let same : c ≡ b = cc (e, picked n c s (look g xs) m q (starts_run d (inr (refl, refl)))) in
        only l (good-body n b s (rw same at m) q) (subst (λ (z : List (Symbol W B)). Derives g (z ++ s) v xs [] v' []) same d)
    only (take e f l) q (read e' d) = only l q d
    only (make l) q (build d) = only l q d

    module _ (keeps : (a : B) (v : S) → over (g.builds a v) ≡ over v) where
      -- What reads no token changes no count.
      pub still : {s : List (Symbol W B)} {v : S} {ts : List X} {s' : List (Symbol W B)} {v' : S} {r : List X} → Derives g s v ts s' v' r → length ts ≤ length r → over v' ≡ over v
      still stay h = refl
      still (expand b m d) h = still d h
      still (read {ts = ts} e d) h = let f = shorter d in absurd (omega arith)
      still (build {a = a} {v = v} d) h = still d h ∙ keeps a v

      -- what every outcome leaves
      abbrev pub left : Outcome S → ℕ
      left (Accepts w) = 0
      left (Stops k) = k
      left (Exceeds k) = k

      -- Before the position where it stops no count exceeds the limit.
      pub within_before : {s : List (Symbol W B)} {v : S} {ts : List X} {o : Outcome S} {s' : List (Symbol W B)} {v' : S} {r : List X}
          → Leads g over t s v ts o → IsGood t s → over v ≡ false → Derives g s v ts s' v' r → left o ≤ length r → over v' ≡ false
      within_before l q z stay h = z
      within_before {v = v} {s' = s'} {v' = v'} {r = r} (goes {n = n} {s = s} {xs = xs} b e l) q z (expand c m d) h =
          elim (reads_or_not (shorter d)) [
            | inl i ↦ still d (omega arith) ∙ z
            | inr i ↦
                let same : c ≡ b = cc (e, picked n c s (look g xs) m q (starts_run d (inl i))) in
                within_before l (good-body n b s (rw same at m) q) z (subst (λ (z : List (Symbol W B)). Derives g (z ++ s) v xs s' v' r) same d) h
          ]
      within_before (take e f l) q z (read e' d) h = within_before l q f d h
      within_before (make {a = a} {v = v} l) q z (build d) h = within_before l q (keeps a v ∙ z) d h
      within_before (exceed {xs = xs} e f) q z (read e' d) h = let j = shorter d in absurd (omega arith)
      within_before x q z d h = still d h ∙ z

      module _ (stays : (k : W) (x : X) (v : S) → over v ≡ true → over (g.reads k x v) ≡ true) where
        -- A count that has passed the limit stays so.
        pub stays_over : {s : List (Symbol W B)} {v : S} {ts : List X} {s' : List (Symbol W B)} {v' : S} {r : List X} → Derives g s v ts s' v' r → over v ≡ true → over v' ≡ true
        stays_over stay z = z
        stays_over (expand b m d) z = stays_over d z
        stays_over (read {way = k} {t = x} {v = v} e d) z = stays_over d (stays k x v z)
        stays_over (build {a = a} {v = v} d) z = stays_over d (keeps a v ∙ z)

        not_over : (b : Bool) {w : S} → (b ≡ true → over w ≡ true) → over w ≡ false → b ≡ false
        not_over true h z = sym (h refl) ∙ z
        not_over false h z = refl

        -- A sentence that keeps to the limit is accepted.
        pub complete : {s : List (Symbol W B)} {v w : S} {ts : List X} → Derives g s v ts [] w [] → IsGood t s → over w ≡ false → Leads g over t s v ts (Accepts w)
        complete stay q z = accept
        complete {ts = ts} (expand {n = n} {s = s} b m d) q z = goes b (picked n b s (look g ts) m q (starts_run d (inr (refl, refl)))) (complete d (good-body n b s m q) z)
        complete {v = v} (read {way = way} {t = x} e d) q z = take e (not_over (over (g.reads way x v)) (λ h. stays_over d h) z) (complete d q z)
        complete (build d) q z = make (complete d q z)

        -- If some derivation exceeds the limit, each sentence does.
        pub over_all : {s : List (Symbol W B)} {v : S} {ts : List X} {s' : List (Symbol W B)} {v' : S} {left : List X} {w : S}
            → Derives g s v ts s' v' left → over v' ≡ true → IsGood t s → Derives g s v ts [] w [] → over w ≡ true
        over_all stay z q d' = stays_over d' z
        over_all {v = v} {ts = ts} {w = w} (expand {n = n} {s = s} b m d) z q (expand c m' d') =
            elim (reads_or_not (shorter d)) [
              | inl i ↦ stays_over (expand c m' d') (sym (still d (omega arith)) ∙ z)
              | inr i ↦
                  let first = picked n b s (look g ts) m q (starts_run d (inl i)) in
                  let second = picked n c s (look g ts) m' q (starts_run d' (inr (refl, refl))) in
                  let same : c ≡ b = cc (first, second) in
                  over_all d z (good-body n b s m q) (subst (λ (y : List (Symbol W B)). Derives g (y ++ s) v ts [] w []) same d')
            ]
        over_all (read e d) z q (read e' d') = over_all d z q d'
        over_all (build d) z q (build d') = over_all d z q d'
