-- What the tests say of each alternative and of each row.
use Rattle.std.proofs.Common.{ℕ, suc, ◌≡◌, ◌==◌, ◌<◌, ◌≤◌, ◌+◌, List, [], ◌∷◌, ◌++◌, Bool, true, false, not, cond, ◌||◌, ◌&&◌, inl, inr, refl, sym, subst, arith}
use Rattle.std.{proofs.lemmas.Bool.and_parts, proofs.lemmas.Bool.or_cases, proofs.lemmas.Bool.eqb-true, proofs.lemmas.Bool.ltb-true, specs.Prelude.nat_lt}
use Rattle.kp_grammar.specs.Grammar.{Terminal, Nonterminal, Action, alternatives, Has, here, there}
use Rattle.kp_grammar.specs.Tables.{Tables, Row, among, first_of, empty_of, firsts, vanishes}
use Rattle.kp_grammar.specs.Ranks.{Ranks}
use Rattle.kp_grammar.proofs.TableTests.{implied}
use Rattle.kp_expected.specs.{Plain.Plain, Plain.PlainRules}
use Rattle.kp_expected.specs.Readable.{work, all_end, body_fits, bodies_fit, all_fit, some_begins, some_empty, each_begins, rows_exact, known_among, IsReadable}

module _ (rules : PlainRules) (t : Tables) (rank : Ranks) (known : ℕ → Bool) (short : ℕ) where
  one_fits : (n : ℕ) (b : List Plain) (bs : List (List Plain)) → Has b bs → bodies_fit rules t rank known short n bs ≡ true → body_fits rules t rank known short n b ≡ true
  one_fits n b [] m h = elim m [ ]
  one_fits n b (c ∷ bs) here h = (and_parts (body_fits rules t rank known short n c) (bodies_fit rules t rank known short n bs) h).0
  one_fits n b (c ∷ bs) (there m) h = one_fits n b bs m (and_parts (body_fits rules t rank known short n c) (bodies_fit rules t rank known short n bs) h).1

  entry_fits : (m n : ℕ) (b rest : List (List Plain)) (a : Bool) → (m == n) ≡ a → bodies_fit rules t rank known short m b ≡ true → bodies_fit rules t rank known short n rest ≡ true
      → bodies_fit rules t rank known short n (cond a b rest) ≡ true
  entry_fits m n b rest true e p q = subst (λ (k : ℕ). bodies_fit rules t rank known short k b ≡ true) (eqb-true m n e) p
  entry_fits m n b rest false e p q = q

  entries_fit : (rs : PlainRules) (n : ℕ) → all_fit rules t rank known short rs ≡ true → bodies_fit rules t rank known short n (alternatives rs n) ≡ true
  entries_fit [] n h = refl
  entries_fit (r ∷ rs) n h =
      let p = and_parts (bodies_fit rules t rank known short r.0 r.1) (all_fit rules t rank known short rs) h in
      entry_fits r.0 n r.1 (alternatives rs n) (r.0 == n) refl p.0 (entries_fit rs n p.1)

  module _ (fits : all_fit rules t rank known short rules ≡ true) (n : ℕ) (b : List Plain) (m : Has b (alternatives rules n)) where
    each_fits : body_fits rules t rank known short n b ≡ true
    each_fits = one_fits n b (alternatives rules n) m (entries_fit rules n fits)

    parts : ((nat_lt (work t rank b) (suc (rank n)) && (not (vanishes t b) || empty_of t n)) ≡ true) × (all_end rules t known short b ≡ true)
    parts = and_parts (nat_lt (work t rank b) (suc (rank n)) && (not (vanishes t b) || empty_of t n)) (all_end rules t known short b) each_fits

    pub ready : all_end rules t known short b ≡ true
    ready = parts.1

    pub light : (work t rank b < suc (rank n)) × ((not (vanishes t b) || empty_of t n) ≡ true)
    light =
        let p = and_parts (nat_lt (work t rank b) (suc (rank n))) (not (vanishes t b) || empty_of t n) parts.0 in
        (ltb-true (work t rank b) (suc (rank n)) p.0, p.1)

more_work : (e v : Bool) (r x y z : ℕ) → x ≤ y + cond v z 0 → suc r + cond e x 0 ≤ (suc r + cond e y 0) + cond (e && v) z 0
more_work true v r x y z h = omega (arith, h)
more_work false v r x y z h = omega arith

work-append : (t : Tables) (rank : Ranks) (b s : List Plain) → work t rank (b ++ s) ≤ work t rank b + cond (vanishes t b) (work t rank s) 0
work-append t rank [] s = omega arith
work-append t rank (Terminal c way ∷ b) s = omega arith
work-append t rank (Action a ∷ b) s = work-append t rank b s
work-append t rank (Nonterminal n ∷ b) s =
    more_work (empty_of t n) (vanishes t b) (rank n) (work t rank (b ++ s)) (work t rank b) (work t rank s) (work-append t rank b s)

less : (v e : Bool) (r x y z : ℕ) → (not v || e) ≡ true → y < suc r → x ≤ y + cond v z 0 → x < suc r + cond e z 0
less true true r x y z f g h = omega (arith, g, h)
less true false r x y z f g h = cc f
less false true r x y z f g h = omega (arith, g, h)
less false false r x y z f g h = omega (arith, g, h)

module _ {C : Type 0} (number : C → ℕ) (rules : PlainRules) (t : Tables) (rank : Ranks) (k : IsReadable number rules t rank) where
  -- Replacing a name by an alternative makes less work.
  pub lighter : (n : ℕ) (b s : List Plain) → Has b (alternatives rules n) → work t rank (b ++ s) < work t rank (Nonterminal n ∷ s)
  lighter n b s m =
      let p = light rules t rank (known_among number k.classes) k.short k.bodies n b m in
      less (vanishes t b) (empty_of t n) (rank n) (work t rank (b ++ s)) (work t rank b) (work t rank s) p.1 p.0 (work-append t rank b s)

row_exact : (t : Tables) (bs : List (List Plain)) (cs : List ℕ) (c : ℕ) → each_begins t bs cs ≡ true → among c cs ≡ true → some_begins t c bs ≡ true
row_exact t bs [] c h m = cc m
row_exact t bs (d ∷ cs) c h m =
    let p = and_parts (some_begins t d bs) (each_begins t bs cs) h in
    elim (or_cases (c == d) (among c cs) m) [
      | inl e ↦ subst (λ (x : ℕ). some_begins t x bs ≡ true) (sym (eqb-true c d e)) p.0
      | inr e ↦ row_exact t bs cs c p.1 e
    ]

module _ (rules : PlainRules) (t : Tables) where
  abbrev Exact : Row → Type 0
  Exact r = (each_begins t (alternatives rules r.name) r.first && (not r.empty || some_empty (alternatives rules r.name))) ≡ true

  first_at : (r : Row) (rs : Tables) (n c : ℕ) (a : Bool) → (r.name == n) ≡ a → Exact r → (among c (first_of rs n) ≡ true → some_begins t c (alternatives rules n) ≡ true)
      → among c (cond a r.first (first_of rs n)) ≡ true → some_begins t c (alternatives rules n) ≡ true
  first_at r rs n c true e x rest m =
      let same = eqb-true r.name n e in
      subst (λ (z : ℕ). some_begins t c (alternatives rules z) ≡ true) same
      (row_exact t (alternatives rules r.name) r.first c (and_parts (each_begins t (alternatives rules r.name) r.first) (not r.empty || some_empty (alternatives rules r.name)) x).0 m)
  first_at r rs n c false e x rest m = rest m

  -- A first class of a name is one of an alternative.
  pub some_first : (rs : Tables) (n c : ℕ) → rows_exact rules t rs ≡ true → among c (first_of rs n) ≡ true → some_begins t c (alternatives rules n) ≡ true
  some_first [] n c h m = cc m
  some_first (r ∷ rs) n c h m =
      let p = and_parts (each_begins t (alternatives rules r.name) r.first && (not r.empty || some_empty (alternatives rules r.name))) (rows_exact rules t rs) h in
      first_at r rs n c (r.name == n) refl p.0 (some_first rs n c p.1) m

  empty_at : (r : Row) (rs : Tables) (n : ℕ) (a : Bool) → (r.name == n) ≡ a → Exact r → (empty_of rs n ≡ true → some_empty (alternatives rules n) ≡ true)
      → cond a r.empty (empty_of rs n) ≡ true → some_empty (alternatives rules n) ≡ true
  empty_at r rs n true e x rest m =
      let same = eqb-true r.name n e in
      subst (λ (z : ℕ). some_empty (alternatives rules z) ≡ true) same
      (implied r.empty (some_empty (alternatives rules r.name)) (and_parts (each_begins t (alternatives rules r.name) r.first) (not r.empty || some_empty (alternatives rules r.name)) x).1 m)
  empty_at r rs n false e x rest m = rest m

  some_nothing : (rs : Tables) (n : ℕ) → rows_exact rules t rs ≡ true → empty_of rs n ≡ true → some_empty (alternatives rules n) ≡ true
  some_nothing [] n h m = cc m
  some_nothing (r ∷ rs) n h m =
      let p = and_parts (each_begins t (alternatives rules r.name) r.first && (not r.empty || some_empty (alternatives rules r.name))) (rows_exact rules t rs) h in
      empty_at r rs n (r.name == n) refl p.0 (some_nothing rs n p.1) m

empty_has : (bs : List (List Plain)) → some_empty bs ≡ true → Has [] bs
empty_has [] h = cc h
empty_has ([] ∷ bs) h = here
empty_has ((x ∷ b) ∷ bs) h = there (empty_has bs h)

-- A nullable name has an empty alternative.
pub has_empty : (rules : PlainRules) (t : Tables) (n : ℕ) → rows_exact rules t t ≡ true → empty_of t n ≡ true → Has [] (alternatives rules n)
has_empty rules t n h e = empty_has (alternatives rules n) (some_nothing rules t t n h e)

-- Where an alternative begins with a class, one that does is chosen.
pub begun : (t : Tables) (c : ℕ) (bs : List (List Plain)) → some_begins t c bs ≡ true → (b : List Plain) × Has b bs × (among c (firsts t b) ≡ true)
begun t c [] h = cc h
begun t c (b ∷ bs) h = elim (or_cases (among c (firsts t b)) (some_begins t c bs) h) [
  | inl e ↦ (b, here, e)
  | inr e ↦ let r = begun t c bs e in (r.0, there r.1, r.2)
]
