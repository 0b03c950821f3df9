-- A sentence with terms in it.
use Rattle.std.specs.Prelude.{ℕ, List, [], ◌∷◌, ◌++◌, count_by, drop, take, slice_index_or, ◌==◌, if◌then◌else◌}
use Rattle.std.specs.Char.{encode_utf8}
use Rattle.kp_view_help.specs.{Texts.term_text, declared.phrase.Terms.Terms, declared.phrase.Line.Line}
use Rattle.kp_view_help.specs.declared.phrase.Terms.TheVariants as terms

abbrev pub terms_texts : Terms → List (List ℕ)
terms_texts terms.None = []
terms_texts (terms.One a) = term_text a ∷ []
terms_texts (terms.Two a b) = term_text a ∷ term_text b ∷ []
terms_texts (terms.Three a b c) = term_text a ∷ term_text b ∷ term_text c ∷ []
terms_texts (terms.Four a b c d) = term_text a ∷ term_text b ∷ term_text c ∷ term_text d ∷ []
terms_texts (terms.Five a b c d e) = term_text a ∷ term_text b ∷ term_text c ∷ term_text d ∷ term_text e ∷ []

-- A text with the next term in the place of each `{}`, and with nothing there once all are used. 123 and 125 are the braces; each other byte is written as a
-- character.
abbrev pub phrase_text : List ℕ → List (List ℕ) → List ℕ
phrase_text [] terms = []
phrase_text (byte ∷ rest) terms =
    if byte == 123 then slice_index_or terms 0 [] ++ phrase_text rest (drop 1 terms)
    else if byte == 125 then phrase_text rest terms
    else encode_utf8 byte ++ phrase_text rest terms

-- the number of terms that a text has a place `{}` for
abbrev pub places : List ℕ → ℕ
places text = count_by (λ byte. byte == 123) text

-- the terms that a line prints, in order
abbrev pub printed : Line → List (List ℕ)
printed line = take (places line.text.now) (terms_texts line.terms)
