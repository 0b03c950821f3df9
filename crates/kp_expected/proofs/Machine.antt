-- The steps of the machine.
use Rattle.std.proofs.Common.{ℕ, ◌≡◌, ◌==◌, ◌<◌, ◌≤◌, ◌+◌, List, [], ◌∷◌, ◌++◌, Bool, true, false, Some, None, refl, sym, ap, ◌∙◌, subst, eq-eqb, drop, length, get_or}
use Rattle.std.{specs.Prelude.⊤, specs.Prelude.◌↔◌, proofs.lemmas.Bool.eqb-true, proofs.lemmas.List.drop_all, proofs.lemmas.List.drop_more}
use Rattle.kp_grammar.specs.Grammar.{Terminal, Nonterminal, Derives, stay, expand, read}
use Rattle.kp_grammar.specs.{Tables.Tables, Tables.IsPredictive, Tables.pick, Machine.goes, Machine.take, Machine.make, Machine.accept}
use Rattle.kp_grammar.specs.Ranks.{Ranks}
use Rattle.kp_grammar.proofs.{TableTests.picks_rule, TableTests.decides, Prefix.after, Derivations.is_accepted, Derivations.no_limit}
use Rattle.kp_expected.specs.{Plain.Plain, Plain.PlainRules, Plain.plain, Starts.starts, GoesOn.GoesOn}
use Rattle.kp_expected.specs.{Readable.IsReadable, Readable.IsReadableName, Readable.work, inner.Steps.Derived, inner.Steps.Runs, inner.Steps.Goes, inner.Steps.Fails, inner.Steps.Decides}
use Rattle.kp_expected.proofs.{Starts.sentence_starts, Fits.lighter, Sentences.sentence, Sentences.ready-append, Sentences.body_ready, Sentences.starts_sentence}

-- the items from an index on
pub one_more : {A : Type 0} (xs : List A) (i : ℕ) (x : A) → i < length xs → get_or xs i x ≡ x → drop i xs ≡ x ∷ drop (i + 1) xs
one_more xs i x h e = drop_more xs i x h ∙ ap (λ z. z ∷ drop (i + 1) xs) e

module _ {C : Type 0} (number : C → ℕ) (rules : PlainRules) (t : Tables) where
  at_name : {n : ℕ} {r b : List Plain} {c : C} {cs : List C} → pick rules t n (number c) ≡ Some b → Runs number rules t (Nonterminal n ∷ r) (c ∷ cs) → Runs number rules t (b ++ r) (c ∷ cs)
  at_name {r = r} {b = b} {c = c} {cs = cs} e (goes body p l) = let same : body ≡ b = cc (e, p) in subst (λ (z : List Plain). Runs number rules t (z ++ r) (c ∷ cs)) same l

  no_name : {n : ℕ} {r : List Plain} {c : C} {cs : List C} → pick rules t n (number c) ≡ None → Runs number rules t (Nonterminal n ∷ r) (c ∷ cs) → ⊥
  no_name e (goes body p l) = cc (e, p)

  at_token : {d : ℕ} {r : List Plain} {c : C} {cs : List C} → Runs number rules t (Terminal d tt ∷ r) (c ∷ cs) → (number c ≡ d) × Runs number rules t r cs
  at_token (take e f l) = (e, l)

  at_end : {c : C} {cs : List C} → Runs number rules t [] (c ∷ cs) → ⊥
  at_end l = elim l [ ]

  -- What the machine accepts is a sentence.
  accepted : {s : List Plain} {cs : List C} → Runs number rules t s cs → Derived number rules s cs [] []
  accepted accept = stay
  accepted {s = Nonterminal n ∷ s} (goes body p l) = expand body (picks_rule rules t n _ body p) (accepted l)
  accepted (take e f l) = read e (accepted l)
  accepted (make {a = a} l) = elim a [ ]

  at_unit : (s : List Plain) (cs : List C) (u : ⊤) → Derives (plain number rules) s tt cs [] u [] → Derived number rules s cs [] []
  at_unit s cs tt d = d

  pub goes_self : (s : List Plain) (cs : List C) → Goes number rules t s cs s cs
  goes_self s cs = record { ready = λ r. r; derives = λ rest. stay; runs = λ rest l. l }

  pub goes_from : (s z : List Plain) (cs : List C) → z ≡ s → Goes number rules t s cs z cs
  goes_from s z cs e = subst (λ (x : List Plain). Goes number rules t s cs x cs) (sym e) (goes_self s cs)

  -- all classes are read
  pub goes_all : {s z : List Plain} {front : List C} (xs : List C) (i : ℕ) → length xs ≤ i → Goes number rules t s front z (drop i xs) → Goes number rules t s front z []
  goes_all {s} {z} {front} xs i h o = subst (λ (x : List C). Goes number rules t s front z x) (drop_all i xs h) o

  -- the top is a name, which becomes an alternative;
  pub expanded : (rank : Ranks) (k : IsReadable number rules t rank) {s u r b : List Plain} {c : C} {n : ℕ} → Goes number rules t s (c ∷ []) u (c ∷ []) → u ≡ Nonterminal n ∷ r → pick rules t n (number c) ≡ Some b
      → Goes number rules t s (c ∷ []) (b ++ r) (c ∷ [])
  expanded rank k {s} {u} {r} {b} {c} {n} o' same e =
      let o : Goes number rules t s (c ∷ []) (Nonterminal n ∷ r) (c ∷ []) = subst (λ (z : List Plain). Goes number rules t s (c ∷ []) z (c ∷ [])) same o' in
      let has = picks_rule rules t n (number c) b e in
      record {
        ready = λ q. ready-append number rules t b r (body_ready number rules t rank k n b has) (o.ready q).1;
        derives = λ rest. after (plain number rules) (o.derives rest) (expand b has stay);
        runs = λ rest l. at_name e (o.runs rest l);
      }

  pub expanded_to : (rank : Ranks) (k : IsReadable number rules t rank) {s u r b z : List Plain} {c : C} {n : ℕ} → Goes number rules t s (c ∷ []) u (c ∷ []) → u ≡ Nonterminal n ∷ r → pick rules t n (number c) ≡ Some b
      → z ≡ b ++ r → Goes number rules t s (c ∷ []) z (c ∷ [])
  expanded_to rank k {s} {u} {r} {b} {z} {c} {n} o same e f = subst (λ (x : List Plain). Goes number rules t s (c ∷ []) x (c ∷ [])) (sym f) (expanded rank k o same e)

  -- or has none;
  pub refused : {s u r : List Plain} {c : C} {n : ℕ} → Goes number rules t s (c ∷ []) u (c ∷ []) → u ≡ Nonterminal n ∷ r → pick rules t n (number c) ≡ None → Fails number rules t s (c ∷ [])
  refused {s} {u} {r} {c} {n} o' same e =
      let o : Goes number rules t s (c ∷ []) (Nonterminal n ∷ r) (c ∷ []) = subst (λ (z : List Plain). Goes number rules t s (c ∷ []) z (c ∷ [])) same o' in
      λ rest l. no_name e (o.runs rest l)

  -- it is a token;
  pub decided : {s u r : List Plain} {c : C} (d : ℕ) (is : Bool) → Goes number rules t s (c ∷ []) u (c ∷ []) → u ≡ Terminal d tt ∷ r → is ≡ (number c == d) → Decides number rules t is s c r
  decided {s} {u} {r} {c} d true o' same e =
      let o : Goes number rules t s (c ∷ []) (Terminal d tt ∷ r) (c ∷ []) = subst (λ (z : List Plain). Goes number rules t s (c ∷ []) z (c ∷ [])) same o' in
      record {
        ready = λ q. (o.ready q).1;
        derives = λ rest. after (plain number rules) (o.derives rest) (read (eqb-true (number c) d (sym e)) stay);
        runs = λ rest l. (at_token (o.runs rest l)).1;
      }
  decided {s} {u} {r} {c} d false o' same e =
      let o : Goes number rules t s (c ∷ []) (Terminal d tt ∷ r) (c ∷ []) = subst (λ (z : List Plain). Goes number rules t s (c ∷ []) z (c ∷ [])) same o' in
      λ rest l. cc (e, eq-eqb (number c) d (at_token (o.runs rest l)).0)

  -- nothing is left.
  pub none_left : {s u : List Plain} {c : C} → Goes number rules t s (c ∷ []) u (c ∷ []) → u ≡ [] → Fails number rules t s (c ∷ [])
  none_left {s} {u} {c} o' same =
      let o : Goes number rules t s (c ∷ []) [] (c ∷ []) = subst (λ (z : List Plain). Goes number rules t s (c ∷ []) z (c ∷ [])) same o' in
      λ rest l. at_end (o.runs rest l)

  -- After the classes of a front, one more is read,
  pub went : {s u w : List Plain} {front more rest : List C} {c : C} (b : Bool) → Goes number rules t s front u more → more ≡ c ∷ rest → b ≡ true → Decides number rules t b u c w → Goes number rules t s front w rest
  went {s} {u} {w} {front} {more} {rest} {c} b f' same is r' =
      let f : Goes number rules t s front u (c ∷ rest) = subst (λ (z : List C). Goes number rules t s front u z) same f' in
      let r : Decides number rules t true u c w = subst (λ (z : Bool). Decides number rules t z u c w) is r' in
      record {
        ready = λ q. r.ready (f.ready q);
        derives = λ others. after (plain number rules) (f.derives others) (r.derives (rest ++ others));
        runs = λ others l. r.runs (rest ++ others) (f.runs others l);
      }

  -- or can't be.
  pub failed : {s u : List Plain} {front more rest : List C} {c : C} (w : List Plain) (b : Bool) → Goes number rules t s front u more → more ≡ c ∷ rest → b ≡ false → Decides number rules t b u c w → Fails number rules t s front
  failed {s} {u} {front} {more} {rest} {c} w b f' same is r' =
      let f : Goes number rules t s front u (c ∷ rest) = subst (λ (z : List C). Goes number rules t s front u z) same f' in
      let r : Decides number rules t false u c w = subst (λ (z : Bool). Decides number rules t z u c w) is r' in
      λ others l. r (rest ++ others) (f.runs others l)

  module _ (rank : Ranks) (n : ℕ) (k : IsReadableName number rules t rank n) (front : List C) where
    runs : (c : C) → GoesOn (plain number rules) n tt front c → (cs : List C) × Runs number rules t (Nonterminal n ∷ []) (front ++ c ∷ cs)
    runs c g =
        let p : IsPredictive (plain number rules) t n = record { fits = k.readable.fits; ends = k.at_end } in
        (g.0, is_accepted (plain number rules) t n p (λ v. false) (no_limit (plain number rules)) (at_unit (Nonterminal n ∷ []) (front ++ c ∷ g.0) g.1 g.2) refl)

    -- What goes on after the front is what the symbols after it begin with;
    pub next : (s : List Plain) → Goes number rules t (Nonterminal n ∷ []) front s [] → (c : C) → (starts t s (number c) ≡ true) ↔ GoesOn (plain number rules) n tt front c
    next s f c = (
      (λ e.
          let first = sentence number rules t k.readable.classes k.readable.short 200 (Nonterminal n ∷ []) k.has_sentence in
          let r = starts_sentence number rules t rank k.readable s c (f.ready (first, tt)) e in
          (r.0, tt, after (plain number rules) (f.derives (c ∷ r.0)) r.1)),
      (λ g. let r = runs c g in sentence_starts number rules t (decides rules t k.readable.fits) (accepted (f.runs (c ∷ r.0) r.1))),
    )

    -- and nothing goes on after a front that fails.
    pub nothing : Fails number rules t (Nonterminal n ∷ []) front → (c : C) → GoesOn (plain number rules) n tt front c → ⊥
    nothing f c g = let r = runs c g in f (c ∷ r.0) r.1

-- An alternative in the place of its name makes less work.
pub smaller : {C : Type 0} (number : C → ℕ) (rules : PlainRules) (t : Tables) (rank : Ranks) (k : IsReadable number rules t rank) (n c : ℕ) (b r u z : List Plain) → u ≡ Nonterminal n ∷ r → pick rules t n c ≡ Some b
    → z ≡ b ++ r → work t rank z < work t rank u
smaller number rules t rank k n c b r u z same e f =
    subst (λ (x : List Plain). work t rank x < work t rank u) (sym f)
    (subst (λ (x : List Plain). work t rank (b ++ r) < work t rank x) (sym same) (lighter number rules t rank k n b r (picks_rule rules t n c b e)))
