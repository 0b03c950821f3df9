-- How far a sentence is written: with what is left to write, it stays the same.
use Rattle.std.proofs.Common.{◌≡◌, ◌∙◌, ℕ, ◌+◌, ◌<◌, ◌≢◌, List, [], ◌∷◌, ◌++◌, length, drop, get_or, sym, ap, append_assoc, arith, rules, tests}
use Rattle.std.{proofs.lemmas.List.at_drop_more, proofs.lemmas.List.get_or-drop, proofs.lemmas.List.drop-drop, specs.Char.encode_utf8}
use Rattle.kp_view_help.specs.Phrases.{phrase_text}

-- the next byte
next : (text : List ℕ) (terms : List (List ℕ)) (i byte : ℕ) → i < length text → get_or text i 0 ≡ byte
    → phrase_text (drop i text) terms ≡ phrase_text (byte ∷ drop (i + 1) text) terms
next text terms i byte within is =
    at_drop_more (λ (t : List ℕ). phrase_text t terms) text i 0 within ∙ ap (λ (b : ℕ). phrase_text (b ∷ drop (i + 1) text) terms) is

-- `{`
pub after_term : (done text all : List ℕ) (terms : List (List ℕ)) (i n : ℕ) → i < length text → get_or text i 0 ≡ 123
    → done ++ phrase_text (drop i text) (drop n terms) ≡ all → (done ++ get_or terms n []) ++ phrase_text (drop (i + 1) text) (drop (n + 1) terms) ≡ all
after_term done text all terms i n within is so_far =
    let rest = phrase_text (drop (i + 1) text) (drop (n + 1) terms) in
    let none : n + 0 ≡ n = omega arith in
    let here : phrase_text (drop i text) (drop n terms) ≡ get_or terms n [] ++ rest =
    next text (drop n terms) i 123 within is
    ∙ ap (λ (t : List ℕ). t ++ phrase_text (drop (i + 1) text) (drop 1 (drop n terms))) (get_or-drop n terms 0 [] ∙ ap (λ (k : ℕ). get_or terms k []) none)
    ∙ ap (λ (ts : List (List ℕ)). get_or terms n [] ++ phrase_text (drop (i + 1) text) ts) (drop-drop 1 n terms) in
    append_assoc done (get_or terms n []) rest ∙ ap (λ (l : List ℕ). done ++ l) (sym here) ∙ so_far

-- `}`
pub after_brace : (done text all : List ℕ) (terms : List (List ℕ)) (i : ℕ) → i < length text → get_or text i 0 ≡ 125
    → done ++ phrase_text (drop i text) terms ≡ all → done ++ phrase_text (drop (i + 1) text) terms ≡ all
after_brace done text all terms i within is so_far = ap (λ (l : List ℕ). done ++ l) (sym (next text terms i 125 within is)) ∙ so_far

written_as : (byte : ℕ) (rest : List ℕ) (terms : List (List ℕ)) → byte ≢ 123 → byte ≢ 125
    → phrase_text (byte ∷ rest) terms ≡ encode_utf8 byte ++ phrase_text rest terms
written_as byte rest terms no_term no_brace = search (rules, tests)

-- another byte
pub after_byte : (done text all : List ℕ) (terms : List (List ℕ)) (i byte : ℕ) → i < length text → get_or text i 0 ≡ byte → byte ≢ 123 → byte ≢ 125
    → done ++ phrase_text (drop i text) terms ≡ all → (done ++ encode_utf8 byte) ++ phrase_text (drop (i + 1) text) terms ≡ all
after_byte done text all terms i byte within is no_term no_brace so_far =
    let rest = phrase_text (drop (i + 1) text) terms in
    let here = next text terms i byte within is ∙ written_as byte (drop (i + 1) text) terms no_term no_brace in
    append_assoc done (encode_utf8 byte) rest ∙ ap (λ (l : List ℕ). done ++ l) (sym here) ∙ so_far
