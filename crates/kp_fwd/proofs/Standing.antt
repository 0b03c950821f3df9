-- Rows in halves, and while the pool grows.
use Rattle.std.proofs.Common.{◌≡◌, ◌∙◌, ℕ, Bool, true, false, cond, ◌||◌, List, [], ◌∷◌, ◌++◌, All, refl, sym, ap, arith}
use Rattle.std.proofs.lemmas.List.Elements.{All-head, All-tail}
use Rattle.kp_net.{specs.Nodes.Cells, specs.Nodes.at, specs.Nodes.on, specs.Growth.Held, specs.Growth.Grown, proofs.Growing.wire_grown}
use Rattle.kp_fwd.specs.{declared.entries.Candidate.Candidate, Forward.first_of, Forward.CandidateOk, inner.Tree.StandsFor}

-- a call that adds nothing
pub grown_nothing : (p : Held) → Grown p p 0
grown_nothing p = record {
  kept = record { longer = omega arith; total = refl; room = omega arith; words = λ c i l. refl; same = λ c i l. refl; tests = λ c i l. refl; widths = λ i l. refl; nodes = λ i l. refl };
  plain = λ i l m. absurd (omega arith);
}

pub candidate_grown : (p q : Held) (k w : ℕ) (r : Candidate) → Grown p q k → CandidateOk p w r → CandidateOk q w r
candidate_grown p q k w r g h = record { hit = wire_grown p q k r.hit 1 g h.hit; ok = wire_grown p q k r.ok 1 g h.ok; value = wire_grown p q k r.value w g h.value }

pub candidates_grown : (p q : Held) (k w : ℕ) (rows : List Candidate) → Grown p q k → All (CandidateOk p w) rows → All (CandidateOk q w) rows
candidates_grown p q k w rows g h j d l = candidate_grown p q k w _ g (h j d l)

-- a concatenation of rows
first_append : {A : Type 0} (c : Cells) (p : Held) (f : Candidate → A) (none : A) (xs ys : List Candidate) → first_of c p f none (xs ++ ys) ≡ first_of c p f (first_of c p f none ys) xs
first_append c p f none [] ys = refl
first_append c p f none (x ∷ xs) ys = ap (cond (on c p.nodes x.hit.0) (f x)) (first_append c p f none xs ys)

-- the value of rows is preserved while the pool grows
first_kept : {A : Type 0} (c : Cells) (p q : Held) (k w : ℕ) (f g : Candidate → A) (none : A) (rows : List Candidate) → Grown p q k → ((r : Candidate) → CandidateOk p w r → g r ≡ f r) → All (CandidateOk p w) rows → first_of c q g none rows ≡ first_of c p f none rows
first_kept c p q k w f g none [] h same ok = refl
first_kept c p q k w f g none (r ∷ rs) h same ok =
    let here : CandidateOk p w r = All-head (CandidateOk p w) r rs ok in
    let hit = h.kept.tests c r.hit.0 here.hit.inside in
    let value = same r here in
    let rest = first_kept c p q k w f g none rs h same (All-tail (CandidateOk p w) r rs ok) in
    λ i. cond (hit i) (value i) (rest i)

pub stands_later : (p q z : Held) (k w : ℕ) (rows : List Candidate) (r : Candidate) → Grown p q k → All (CandidateOk p w) rows → StandsFor q rows z r → StandsFor p rows z r
stands_later p q z k w rows r g ok h = record {
  hit = λ c none. h.hit c none ∙ first_kept c p q k w (λ s. true) (λ s. true) none rows g (λ s o. refl) ok;
  ok = λ c none. h.ok c none ∙ first_kept c p q k w (λ s. on c p.nodes s.ok.0) (λ s. on c q.nodes s.ok.0) none rows g (λ s o. g.kept.tests c s.ok.0 o.ok.inside) ok;
  value = λ c none. h.value c none ∙ first_kept c p q k w (λ s. at c p.nodes s.value.0) (λ s. at c q.nodes s.value.0) none rows g (λ s o. g.kept.same c s.value.0 o.value.inside) ok;
}

pub stands_grown : (p q z : Held) (k w : ℕ) (rows : List Candidate) (r : Candidate) → Grown q z k → CandidateOk q w r → StandsFor p rows q r → StandsFor p rows z r
stands_grown p q z k w rows r g o h = record {
  hit = λ c none. (λ i. cond (g.kept.tests c r.hit.0 o.hit.inside i) true none) ∙ h.hit c none;
  ok = λ c none. (λ i. cond (g.kept.tests c r.hit.0 o.hit.inside i) (g.kept.tests c r.ok.0 o.ok.inside i) none) ∙ h.ok c none;
  value = λ c none. (λ i. cond (g.kept.tests c r.hit.0 o.hit.inside i) (g.kept.same c r.value.0 o.value.inside i) none) ∙ h.value c none;
}

chosen : {A : Type 0} (a b : Bool) (x y none : A) → cond (a || b) (cond a x y) none ≡ cond a x (cond b y none)
chosen true b x y none = refl
chosen false b x y none = refl

same_chosen : {A : Type 0} (a : Bool) (x : A) → x ≡ cond a x x
same_chosen true x = refl
same_chosen false x = refl

pub bit_is : (a : Bool) → a ≡ cond a true false
bit_is true = refl
bit_is false = refl

-- one row that replaces two, which replace adjacent lists of rows
first_joined : {A : Type 0} (c : Cells) (p : Held) (f : Candidate → A) (xs ys : List Candidate) (a b h : Bool) (x y v none : A) → h ≡ (a || b) → v ≡ cond a x y
    → ((m : A) → cond a x m ≡ first_of c p f m xs) → ((m : A) → cond b y m ≡ first_of c p f m ys) → cond h v none ≡ first_of c p f none (xs ++ ys)
first_joined c p f xs ys a b h x y v none e u s t =
    (λ i. cond (e i) (u i) none) ∙ chosen a b x y none ∙ s (cond b y none) ∙ ap (λ m. first_of c p f m xs) (t none) ∙ sym (first_append c p f none xs ys)

pub stands_joined : (p q z : Held) (xs ys : List Candidate) (a b r : Candidate) → StandsFor p xs q a → StandsFor p ys q b
    → ((c : Cells) → on c z.nodes r.hit.0 ≡ (on c q.nodes a.hit.0 || on c q.nodes b.hit.0))
    → ((c : Cells) → on c z.nodes r.ok.0 ≡ cond (on c q.nodes a.hit.0) (on c q.nodes a.ok.0) (on c q.nodes b.ok.0))
    → ((c : Cells) → at c z.nodes r.value.0 ≡ cond (on c q.nodes a.hit.0) (at c q.nodes a.value.0) (at c q.nodes b.value.0))
    → StandsFor p (xs ++ ys) z r
stands_joined p q z xs ys a b r s t hit ok value = record {
  hit = λ c none. first_joined c p (λ x. true) xs ys (on c q.nodes a.hit.0) (on c q.nodes b.hit.0) (on c z.nodes r.hit.0) true true true none (hit c) (same_chosen (on c q.nodes a.hit.0) true) (s.hit c) (t.hit c);
  ok = λ c none. first_joined c p (λ x. on c p.nodes x.ok.0) xs ys (on c q.nodes a.hit.0) (on c q.nodes b.hit.0) (on c z.nodes r.hit.0) (on c q.nodes a.ok.0) (on c q.nodes b.ok.0) (on c z.nodes r.ok.0) none (hit c) (ok c) (s.ok c) (t.ok c);
  value = λ c none. first_joined c p (λ x. at c p.nodes x.value.0) xs ys (on c q.nodes a.hit.0) (on c q.nodes b.hit.0) (on c z.nodes r.hit.0) (at c q.nodes a.value.0) (at c q.nodes b.value.0) (at c z.nodes r.value.0) none (hit c) (value c) (s.value c) (t.value c);
}
