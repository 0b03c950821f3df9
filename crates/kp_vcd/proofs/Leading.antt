-- Parts of a text that lead from one state to another.
use Rattle.std.proofs.Common.{◌≡◌, ◌∙◌, refl, sym, ap, subst, arith, ℕ, Bool, true, false, not, List, [], ◌∷◌, ◌++◌, Ok, append_assoc}
use Rattle.std.{proofs.lemmas.Bool.and_parts, proofs.lemmas.List.append-nil, specs.List.list_all}
use Rattle.kp_base.specs.{Place.place_after, declared.place.Place.Place}
use Rattle.kp_vcd.specs.{Words.is_layout, Words.Spot, Words.ended, Words.words_from, Reading.State, Reading.Step, Reading.step, Reading.walk}
use Rattle.kp_vcd.proofs.{Spots.is_part, Numerals.IsPlain}

no_layout : (t : Bool) → not t ≡ true → t ≡ false
no_layout true e = cc
no_layout false e = refl

word_ended : (front acc w : List ℕ) (sep : ℕ) (rest : List ℕ) → list_all is_part w ≡ true → is_layout sep ≡ true
    → words_from front acc (w ++ sep ∷ rest) ≡ ended front (acc ++ w) (words_from (front ++ ((acc ++ w) ++ sep ∷ [])) [] rest)
word_ended front acc [] sep rest p is = rw (is, append-nil acc) refl
word_ended front acc (b ∷ bs) sep rest p is =
    let parts = and_parts (is_part b) (list_all is_part bs) p in
    let none : is_layout b ≡ false = no_layout (is_layout b) parts.0 in
    rw none (
    word_ended front (acc ++ b ∷ []) bs sep rest parts.1 is
    ∙ ap (λ (w : List ℕ). ended front w (words_from (front ++ (w ++ sep ∷ [])) [] rest)) (append_assoc acc (b ∷ []) bs))

-- after this part of a text, which ends a token, that state is reached
abbrev pub Leads : State → List ℕ → State → Type 0
Leads s part t = (front rest : List ℕ) (end : Place) → walk (Ok s) (words_from front [] (part ++ rest)) end ≡ walk (Ok t) (words_from (front ++ part) [] rest) end

pub nothing : (s : State) → Leads s [] s
nothing s front rest end = ap (λ (f : List ℕ). walk (Ok s) (words_from f [] rest) end) (sym (append-nil front))

pub both : (s t u : State) (p q : List ℕ) → Leads s p t → Leads t q u → Leads s (p ++ q) u
both s t u p q first second front rest end =
    ap (λ (r : List ℕ). walk (Ok s) (words_from front [] r) end) (append_assoc p q rest)
    ∙ first front (q ++ rest) end
    ∙ second (front ++ p) rest end
    ∙ ap (λ (f : List ℕ). walk (Ok u) (words_from f [] rest) end) (append_assoc front p q)

pub same_part : (s t : State) (p q : List ℕ) → p ≡ q → Leads s p t → Leads s q t
same_part s t p q e h = subst (λ (r : List ℕ). Leads s r t) e h

-- one token, whose state may contain its position
pub word_at : (s : State) (mid : Place → State) (w : List ℕ) (sep : ℕ) → IsPlain w → is_layout sep ≡ true
    → ((place : Place) → step s (record { place = place; bytes = w }) ≡ Ok (mid place))
    → (front rest : List ℕ) (end : Place)
    → walk (Ok s) (words_from front [] ((w ++ sep ∷ []) ++ rest)) end ≡ walk (Ok (mid (place_after front))) (words_from (front ++ (w ++ sep ∷ [])) [] rest) end
word_at s mid [] sep plain is h front rest end = absurd (let some = plain.some in omega (arith, some))
word_at s mid (b ∷ bs) sep plain is h front rest end =
    ap (λ (r : List ℕ). walk (Ok s) (words_from front [] r) end) (append_assoc (b ∷ bs) (sep ∷ []) rest)
    ∙ ap (λ (ws : List Spot). walk (Ok s) ws end) (word_ended front [] (b ∷ bs) sep rest plain.parts is)
    ∙ ap (λ (r : Step). walk r (words_from (front ++ ((b ∷ bs) ++ sep ∷ [])) [] rest) end) (h (place_after front))

pub one_word : (s t : State) (w : List ℕ) (sep : ℕ) → IsPlain w → is_layout sep ≡ true
    → ((place : Place) → step s (record { place = place; bytes = w }) ≡ Ok t) → Leads s (w ++ sep ∷ []) t
one_word s t w sep plain is h = word_at s (λ place. t) w sep plain is h

pub two_words : (s u : State) (mid : Place → State) (v w : List ℕ) (sep sep' : ℕ) → IsPlain v → IsPlain w → is_layout sep ≡ true → is_layout sep' ≡ true
    → ((place : Place) → step s (record { place = place; bytes = v }) ≡ Ok (mid place))
    → ((first place : Place) → step (mid first) (record { place = place; bytes = w }) ≡ Ok u)
    → Leads s ((v ++ sep ∷ []) ++ (w ++ sep' ∷ [])) u
two_words s u mid v w sep sep' plain plain' is is' h h' front rest end =
    ap (λ (r : List ℕ). walk (Ok s) (words_from front [] r) end) (append_assoc (v ++ sep ∷ []) (w ++ sep' ∷ []) rest)
    ∙ word_at s mid v sep plain is h front ((w ++ sep' ∷ []) ++ rest) end
    ∙ word_at (mid (place_after front)) (λ place. u) w sep' plain' is' (h' (place_after front)) (front ++ (v ++ sep ∷ [])) rest end
    ∙ ap (λ (f : List ℕ). walk (Ok u) (words_from f [] rest) end) (append_assoc front (v ++ sep ∷ []) (w ++ sep' ∷ []))
