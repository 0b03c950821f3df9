-- What the test on tables finds.
use Rattle.std.proofs.Common.{ℕ, ◌≡◌, ◌==◌, List, [], ◌∷◌, Bool, true, false, not, cond, ◌||◌, ◌&&◌, Some, refl, sym, ap, ◌∙◌, subst, inl, inr}
use Rattle.std.proofs.lemmas.Bool.{eqb-true, or_cases, and_parts, not-true, false_from_ne_true}
use Rattle.kp_grammar.specs.Tables.{Tables, among, within, apart, first_of, empty_of, after_of, firsts, vanishes, choose, pick, follows_fit, body_fits, all_apart, last_vanishes, bodies_fit, rule_fits, rules_fit}
use Rattle.kp_grammar.specs.Grammar.{Symbol, Nonterminal, Rules, alternatives, Has, here, there}
use Rattle.kp_grammar.proofs.Conditions.{Follows, Decides}

pub implied : (a b : Bool) → (not a || b) ≡ true → a ≡ true → b ≡ true
implied true b h k = h
implied false b h k = cc

among-at : (c x : ℕ) (ys : List ℕ) → (c == x) ≡ true → among x ys ≡ among c ys
among-at c x ys e = ap (λ (z : ℕ). among z ys) (sym (eqb-true c x e))

within-among : (c : ℕ) (xs ys : List ℕ) → within xs ys ≡ true → among c xs ≡ true → among c ys ≡ true
within-among c [] ys h k = cc
within-among c (x ∷ xs) ys h k =
    let p = and_parts (among x ys) (within xs ys) h in
    elim (or_cases (c == x) (among c xs) k) [ inl e ↦ sym (among-at c x ys e) ∙ p.0 | inr e ↦ within-among c xs ys p.1 e ]

apart-among : (c : ℕ) (xs ys : List ℕ) → apart xs ys ≡ true → among c xs ≡ true → among c ys ≡ false
apart-among c [] ys h k = cc
apart-among c (x ∷ xs) ys h k =
    let p = and_parts (not (among x ys)) (apart xs ys) h in
    elim (or_cases (c == x) (among c xs) k) [ inl e ↦ sym (among-at c x ys e) ∙ not-true (among x ys) p.0 | inr e ↦ apart-among c xs ys p.1 e ]

apart-among' : (c : ℕ) (xs ys : List ℕ) → apart xs ys ≡ true → among c ys ≡ true → among c xs ≡ false
apart-among' c xs ys h k = false_from_ne_true (among c xs) (λ e. cc (apart-among c xs ys h e))

entry_step : {W B : Type 0} → (t : Tables) (m n : ℕ) (b rest : List (List (Symbol W B))) (a : Bool) → (m == n) ≡ a → rule_fits t m b ≡ true → rule_fits t n rest ≡ true → rule_fits t n (cond a b rest) ≡ true
entry_step t m n b rest true e p q = subst (λ (k : ℕ). rule_fits t k b ≡ true) (eqb-true m n e) p
entry_step t m n b rest false e p q = q

choose_step : {W B : Type 0} → (t : Tables) (c : ℕ) (e : List (Symbol W B)) (bs : List (List (Symbol W B))) (b : List (Symbol W B)) (a : Bool) → cond a (Some e) (choose t c bs) ≡ Some b
    → (choose t c bs ≡ Some b → Has b bs) → Has b (e ∷ bs)
choose_step {W = W} {B = B} t c e bs b true h k = let f : e ≡ b = cc in subst (λ (z : List (Symbol W B)). Has z (e ∷ bs)) f here
choose_step t c e bs b false h k = there (k h)

entry-ok : {W B : Type 0} → (t : Tables) (rs : Rules W B) (n : ℕ) → rules_fit t rs ≡ true → rule_fits t n (alternatives rs n) ≡ true
entry-ok t [] n h = refl
entry-ok t (r ∷ rs) n h =
    let p = and_parts (rule_fits t r.0 r.1) (rules_fit t rs) h in
    entry_step t r.0 n r.1 (alternatives rs n) (r.0 == n) refl p.0 (entry-ok t rs n p.1)

record Parts {W B : Type 0} (t : Tables) (n : ℕ) (b d : List (Symbol W B)) (bs : List (List (Symbol W B))) : Type 0 where
  body : body_fits t n b ≡ true
  others : all_apart t (firsts t b) (d ∷ bs) ≡ true
  stays : vanishes t b ≡ false
  rest : bodies_fit t n (d ∷ bs) ≡ true

parts_of : {W B : Type 0} → (t : Tables) (n : ℕ) (b d : List (Symbol W B)) (bs : List (List (Symbol W B))) → bodies_fit t n (b ∷ d ∷ bs) ≡ true → Parts t n b d bs
parts_of t n b d bs h =
    let p = and_parts (body_fits t n b) (all_apart t (firsts t b) (d ∷ bs) && (not (vanishes t b) && bodies_fit t n (d ∷ bs))) h in
    let q = and_parts (all_apart t (firsts t b) (d ∷ bs)) (not (vanishes t b) && bodies_fit t n (d ∷ bs)) p.1 in
    let r = and_parts (not (vanishes t b)) (bodies_fit t n (d ∷ bs)) q.1 in
    record { body = p.0; others = q.0; stays = not-true (vanishes t b) r.0; rest = r.1 }

body-ok : {W B : Type 0} → (t : Tables) (n : ℕ) (b : List (Symbol W B)) (bs : List (List (Symbol W B))) → Has b bs → bodies_fit t n bs ≡ true → body_fits t n b ≡ true
body-ok t n b [] m h = elim m [ ]
body-ok t n b (c ∷ []) here h = h
body-ok t n b (c ∷ []) (there m) h = elim m [ ]
body-ok t n b (c ∷ d ∷ bs) here h = (parts_of t n c d bs h).body
body-ok t n b (c ∷ d ∷ bs) (there m) h = body-ok t n b (d ∷ bs) m (parts_of t n c d bs h).rest

all_apart-has : {W B : Type 0} → (t : Tables) (xs : List ℕ) (b : List (Symbol W B)) (bs : List (List (Symbol W B))) → Has b bs → all_apart t xs bs ≡ true → apart xs (firsts t b) ≡ true
all_apart-has t xs b [] m h = elim m [ ]
all_apart-has t xs b (c ∷ bs) here h = (and_parts (apart xs (firsts t c)) (all_apart t xs bs) h).0
all_apart-has t xs b (c ∷ bs) (there m) h = all_apart-has t xs b bs m (and_parts (apart xs (firsts t c)) (all_apart t xs bs) h).1

-- the first body that starts with the class is chosen
choose-first : {W B : Type 0} → (t : Tables) (n c : ℕ) (b : List (Symbol W B)) (bs : List (List (Symbol W B))) → Has b bs → bodies_fit t n bs ≡ true
    → among c (firsts t b) ≡ true → choose t c bs ≡ Some b
choose-first t n c b [] m h k = elim m [ ]
choose-first t n c b (e ∷ []) here h k = refl
choose-first t n c b (e ∷ []) (there m) h k = elim m [ ]
choose-first t n c b (e ∷ d ∷ bs) here h k = rw k refl
choose-first t n c b (e ∷ d ∷ bs) (there m) h k =
    let p = parts_of t n e d bs h in
    let f : among c (firsts t e) ≡ false = apart-among' c (firsts t e) (firsts t b) (all_apart-has t (firsts t e) b (d ∷ bs) m p.others) k in
    rw f (choose-first t n c b (d ∷ bs) m p.rest k)

-- the body that vanishes is the last
vanishing-last : {W B : Type 0} → (t : Tables) (n : ℕ) (b : List (Symbol W B)) (bs : List (List (Symbol W B))) → Has b bs → bodies_fit t n bs ≡ true → vanishes t b ≡ true → last_vanishes t bs ≡ true
vanishing-last t n b [] m h v = elim m [ ]
vanishing-last t n b (e ∷ []) here h v = v
vanishing-last t n b (e ∷ []) (there m) h v = elim m [ ]
vanishing-last t n b (e ∷ d ∷ bs) here h v = cc (v, (parts_of t n e d bs h).stays)
vanishing-last t n b (e ∷ d ∷ bs) (there m) h v = vanishing-last t n b (d ∷ bs) m (parts_of t n e d bs h).rest v

-- if none starts with the class, the nullable one is chosen
choose-last : {W B : Type 0} → (t : Tables) (n c : ℕ) (xs : List ℕ) (b : List (Symbol W B)) (bs : List (List (Symbol W B))) → Has b bs → bodies_fit t n bs ≡ true → vanishes t b ≡ true
    → all_apart t xs bs ≡ true → among c xs ≡ true → choose t c bs ≡ Some b
choose-last t n c xs b [] m h v a k = elim m [ ]
choose-last t n c xs b (e ∷ []) here h v a k = refl
choose-last t n c xs b (e ∷ []) (there m) h v a k = elim m [ ]
choose-last t n c xs b (e ∷ d ∷ bs) here h v a k = cc (v, (parts_of t n e d bs h).stays)
choose-last t n c xs b (e ∷ d ∷ bs) (there m) h v a k =
    let p = and_parts (apart xs (firsts t e)) (all_apart t xs (d ∷ bs)) a in
    rw (apart-among c xs (firsts t e) p.0 k) (choose-last t n c xs b (d ∷ bs) m (parts_of t n e d bs h).rest v p.1 k)

follows-ok : {W B : Type 0} → (t : Tables) (after : List ℕ) (b : List (Symbol W B)) → follows_fit t after b ≡ true → Follows t after b
follows-ok t after [] h = tt
follows-ok t after (Nonterminal n ∷ s) h =
    let p = and_parts (within (firsts t s) (after_of t n)) ((not (vanishes t s) || within after (after_of t n)) && follows_fit t after s) h in
    let q = and_parts (not (vanishes t s) || within after (after_of t n)) (follows_fit t after s) p.1 in (
      (λ c e. within-among c (firsts t s) (after_of t n) p.0 e),
      (λ v c e. within-among c after (after_of t n) (implied (vanishes t s) (within after (after_of t n)) q.0 v) e),
      follows-ok t after s q.1,
    )
follows-ok t after (x ∷ s) h = follows-ok t after s h

choose-has : {W B : Type 0} → (t : Tables) (c : ℕ) (bs : List (List (Symbol W B))) (b : List (Symbol W B)) → choose t c bs ≡ Some b → Has b bs
choose-has t c [] b h = cc
choose-has {W = W} {B = B} t c (e ∷ []) b h = let f : e ≡ b = cc in subst (λ (z : List (Symbol W B)). Has z (e ∷ [])) f here
choose-has t c (e ∷ d ∷ bs) b h = choose_step t c e (d ∷ bs) b (among c (firsts t e)) h (λ k. choose-has t c (d ∷ bs) b k)

-- what is picked is a rule
pub picks_rule : {W B : Type 0} → (rs : Rules W B) (t : Tables) (n c : ℕ) (b : List (Symbol W B)) → pick rs t n c ≡ Some b → Has b (alternatives rs n)
picks_rule rs t n c b h = choose-has t c (alternatives rs n) b h

pub decides : {W B : Type 0} → (rs : Rules W B) (t : Tables) → rules_fit t rs ≡ true → Decides rs t
decides {W = W} {B = B} rs t h = record {
  begins = λ n c b m e. within-among c (firsts t b) (first_of t n) (parts n b m).0 e;
  empties = λ n b m v. implied (vanishes t b) (empty_of t n) (parts n b m).1 v;
  picks = λ n c b m e. choose-first t n c b (alternatives rs n) m (whole n).0 e;
  picks_empty = λ n c b m v e.
      let k = implied (last_vanishes t (alternatives rs n)) (all_apart t (after_of t n) (alternatives rs n)) (whole n).1 (vanishing-last t n b (alternatives rs n) m (whole n).0 v) in
      choose-last t n c (after_of t n) b (alternatives rs n) m (whole n).0 v k e;
  follows = λ n b m. follows-ok t (after_of t n) b (parts n b m).2;
}
  where
    whole : (n : ℕ) → (bodies_fit t n (alternatives rs n) ≡ true) × ((not (last_vanishes t (alternatives rs n)) || all_apart t (after_of t n) (alternatives rs n)) ≡ true)
    whole n = and_parts (bodies_fit t n (alternatives rs n)) (not (last_vanishes t (alternatives rs n)) || all_apart t (after_of t n) (alternatives rs n)) (entry-ok t rs n h)

    parts : (n : ℕ) (b : List (Symbol W B)) → Has b (alternatives rs n) → (within (firsts t b) (first_of t n) ≡ true) × ((not (vanishes t b) || empty_of t n) ≡ true) × (follows_fit t (after_of t n) b ≡ true)
    parts n b m =
        let p = and_parts (within (firsts t b) (first_of t n)) ((not (vanishes t b) || empty_of t n) && follows_fit t (after_of t n) b) (body-ok t n b (alternatives rs n) m (whole n).0) in
        let q = and_parts (not (vanishes t b) || empty_of t n) (follows_fit t (after_of t n) b) p.1 in
        (p.0, q.0, q.1)
