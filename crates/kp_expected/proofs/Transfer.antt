-- What goes on in a grammar goes on in the grammar without what it builds, and the other way round.
use Rattle.std.proofs.Common.{ℕ, ◌≡◌, ◌==◌, List, [], ◌∷◌, ◌++◌, map, Bool, true, false, cond, refl, sym, ap, ◌∙◌, subst}
use Rattle.std.specs.Prelude.{⊤, ◌↔◌}
use Rattle.std.proofs.lemmas.List.{map-append}
use Rattle.kp_grammar.specs.Grammar.{Symbol, Terminal, Nonterminal, Action, Rules, Grammar, alternatives, Has, here, there, Derives, stay, expand, read, build}
use Rattle.kp_expected.specs.{Plain.Plain, Plain.plain, Plain.stripped, Plain.stripped_rules, GoesOn.GoesOn, inner.Steps.Derived}

stripped-append : {W B : Type 0} (a b : List (Symbol W B)) → stripped (a ++ b) ≡ stripped a ++ stripped b
stripped-append [] b = refl
stripped-append (Terminal c way ∷ a) b = ap (λ (z : List Plain). Terminal c tt ∷ z) (stripped-append a b)
stripped-append (Nonterminal n ∷ a) b = ap (λ (z : List Plain). Nonterminal n ∷ z) (stripped-append a b)
stripped-append (Action x ∷ a) b = stripped-append a b

map_cond : {W B : Type 0} (a : Bool) (x y : List (List (Symbol W B))) → cond a (map stripped x) (map stripped y) ≡ map stripped (cond a x y)
map_cond true x y = refl
map_cond false x y = refl

alternatives_stripped : {W B : Type 0} (rs : Rules W B) (n : ℕ) → alternatives (stripped_rules rs) n ≡ map stripped (alternatives rs n)
alternatives_stripped [] n = refl
alternatives_stripped (r ∷ rs) n =
    ap (λ (z : List (List Plain)). cond (r.0 == n) (map stripped r.1) z) (alternatives_stripped rs n) ∙ map_cond (r.0 == n) r.1 (alternatives rs n)

has_stripped : {W B : Type 0} (b : List (Symbol W B)) (bs : List (List (Symbol W B))) → Has b bs → Has (stripped b) (map stripped bs)
has_stripped b [] m = elim m [ ]
has_stripped b (c ∷ bs) here = here
has_stripped b (c ∷ bs) (there m) = there (has_stripped b bs m)

record Source {W B : Type 0} (p : List Plain) (bs : List (List (Symbol W B))) : Type 0 where
  body : List (Symbol W B)
  has : Has body bs
  same : p ≡ stripped body

source : {W B : Type 0} (p : List Plain) (bs : List (List (Symbol W B))) → Has p (map stripped bs) → Source p bs
source p [] m = elim m [ ]
source p (c ∷ bs) here = record { body = c; has = here; same = refl }
source p (c ∷ bs) (there m) = let h = source p bs m in record { body = h.body; has = there h.has; same = h.same }

module _ {W B X S C : Type 0} (g : Grammar W B X S) (number : C → ℕ) (class_of : X → C) (is_class : (x : X) → number (class_of x) ≡ g.class x) where
  has_plain : (n : ℕ) (b : List (Symbol W B)) → Has b (alternatives g.rules n) → Has (stripped b) (alternatives (stripped_rules g.rules) n)
  has_plain n b m = subst (λ (z : List (List Plain)). Has (stripped b) z) (sym (alternatives_stripped g.rules n)) (has_stripped b (alternatives g.rules n) m)

  plain_source : (n : ℕ) (p : List Plain) → Has p (alternatives (stripped_rules g.rules) n) → Source p (alternatives g.rules n)
  plain_source n p m = source p (alternatives g.rules n) (subst (λ (z : List (List Plain)). Has p z) (alternatives_stripped g.rules n) m)

  abbrev Steps : List Plain → List C → Type 0
  Steps s cs = Derived number (stripped_rules g.rules) s cs [] []

  -- from the grammar
  to_plain : {s : List (Symbol W B)} {v w : S} {ts : List X} → Derives g s v ts [] w [] → Steps (stripped s) (map class_of ts)
  to_plain stay = stay
  to_plain {ts = ts} (expand {n = n} {s = s} b m d) =
      expand (stripped b) (has_plain n b m) (subst (λ (z : List Plain). Steps z (map class_of ts)) (stripped-append b s) (to_plain d))
  to_plain (read {t = x} e d) = read (is_class x ∙ e) (to_plain d)
  to_plain (build d) = to_plain d

  -- and back
  abbrev Ends : List (Symbol W B) → S → List X → Type 0
  Ends s v ts = (w : S) × Derives g s v ts [] w []

  at_end : (s : List (Symbol W B)) (v : S) (ts : List X) → stripped s ≡ [] → map class_of ts ≡ [] → Ends s v ts
  at_end [] v [] e f = (v, stay)
  at_end [] v (t ∷ ts) e f = cc f
  at_end (Terminal c way ∷ s) v ts e f = cc e
  at_end (Nonterminal n ∷ s) v ts e f = cc e
  at_end (Action a ∷ s) v ts e f = let h = at_end s (g.builds a v) ts e f in (h.0, build h.1)

  at_name : (s : List (Symbol W B)) (v : S) (ts : List X) (n : ℕ) (r : List Plain) → stripped s ≡ Nonterminal n ∷ r
      → ((s' : List (Symbol W B)) (v' : S) → stripped s' ≡ r → Ends (Nonterminal n ∷ s') v' ts) → Ends s v ts
  at_name [] v ts n r e go = cc e
  at_name (Terminal c way ∷ s) v ts n r e go = cc e
  at_name (Nonterminal m ∷ s) v ts n r e go = let same : n ≡ m = cc e in subst (λ (z : ℕ). Ends (Nonterminal z ∷ s) v ts) same (go s v (cc e))
  at_name (Action a ∷ s) v ts n r e go = let h = at_name s (g.builds a v) ts n r e go in (h.0, build h.1)

  at_token : (s : List (Symbol W B)) (v : S) (ts : List X) (c : ℕ) (way : ⊤) (r : List Plain) → stripped s ≡ Terminal c way ∷ r
      → ((how : W) (s' : List (Symbol W B)) (v' : S) → stripped s' ≡ r → Ends (Terminal c how ∷ s') v' ts) → Ends s v ts
  at_token [] v ts c way r e go = cc e
  at_token (Terminal d how ∷ s) v ts c way r e go = let same : c ≡ d = cc e in subst (λ (z : ℕ). Ends (Terminal z how ∷ s) v ts) same (go how s v (cc e))
  at_token (Nonterminal n ∷ s) v ts c way r e go = cc e
  at_token (Action a ∷ s) v ts c way r e go = let h = at_token s (g.builds a v) ts c way r e go in (h.0, build h.1)

  take_one : (c : ℕ) (x : C) (cs : List C) (ts : List X) (how : W) (s : List (Symbol W B)) (v : S) → number x ≡ c → map class_of ts ≡ x ∷ cs
      → ((v' : S) (us : List X) → map class_of us ≡ cs → Ends s v' us) → Ends (Terminal c how ∷ s) v ts
  take_one c x cs [] how s v e f go = cc f
  take_one c x cs (t ∷ ts) how s v e f go =
      let same : x ≡ class_of t = cc f in
      let is : g.class t ≡ c = sym (is_class t) ∙ (ap number (sym same) ∙ e) in
      let h = go (g.reads how t v) ts (cc f) in (h.0, read is h.1)

  from_plain : {p : List Plain} {cs : List C} → Steps p cs → (s : List (Symbol W B)) (v : S) (ts : List X) → stripped s ≡ p → map class_of ts ≡ cs → Ends s v ts
  from_plain stay s v ts e f = at_end s v ts e f
  from_plain (expand {n = n} {s = r} b m d) s v ts e f =
      at_name s v ts n r e (λ s' v' e'.
      let from = plain_source n b m in
      let h = from_plain d (from.body ++ s') v' ts (stripped-append from.body s' ∙ (ap (λ (z : List Plain). z ++ stripped s') (sym from.same) ∙ ap (λ (z : List Plain). b ++ z) e')) f in
      (h.0, expand from.body from.has h.1))
  from_plain (read {c = c} {way = way} {t = x} {s = r} {ts = cs} q d) s v ts e f =
      at_token s v ts c way r e (λ how s' v' e'. take_one c x cs ts how s' v' q f (λ w us z. from_plain d s' w us e' z))
  from_plain (build {a = a} d) s v ts e f = elim a [ ]

  at_unit : (s : List Plain) (cs : List C) (u : ⊤) → Derives (plain number (stripped_rules g.rules)) s tt cs [] u [] → Steps s cs
  at_unit s cs tt d = d

  -- where each class has a token
  module _ (token_of : C → X) (is_token : (c : C) → class_of (token_of c) ≡ c) where
    tokens_are : (cs : List C) → map class_of (map token_of cs) ≡ cs
    tokens_are [] = refl
    tokens_are (c ∷ cs) = cc (is_token c, tokens_are cs)

    to_classes : (n : ℕ) (v : S) (front : List X) (x : X) → GoesOn g n v front x → GoesOn (plain number (stripped_rules g.rules)) n tt (map class_of front) (class_of x)
    to_classes n v front x h =
        let same = map-append class_of front (x ∷ h.0) in
        (map class_of h.0, tt, subst (λ (z : List C). Steps (Nonterminal n ∷ []) z) same (to_plain h.2))

    from_classes : (n : ℕ) (v : S) (front : List X) (x : X) → GoesOn (plain number (stripped_rules g.rules)) n tt (map class_of front) (class_of x) → GoesOn g n v front x
    from_classes n v front x h =
        let rest = map token_of h.0 in
        let same : map class_of (front ++ x ∷ rest) ≡ map class_of front ++ class_of x ∷ h.0 =
        map-append class_of front (x ∷ rest) ∙ ap (λ (z : List C). map class_of front ++ class_of x ∷ z) (tokens_are h.0) in
        let d = from_plain (at_unit (Nonterminal n ∷ []) (map class_of front ++ class_of x ∷ h.0) h.1 h.2) (Nonterminal n ∷ []) v (front ++ x ∷ rest) refl same in
        (rest, d.0, d.1)

    -- A token can follow exactly where its class can follow the classes.
    pub transfer : (n : ℕ) (v : S) (front : List X) (x : X) → GoesOn g n v front x ↔ GoesOn (plain number (stripped_rules g.rules)) n tt (map class_of front) (class_of x)
    transfer n v front x = (to_classes n v front x, from_classes n v front x)
