-- A sentence has a `{}` in its text for each of its terms.
use Rattle.std.specs.Prelude.{ℕ, List, ◌==◌, length, count_by}
use Rattle.kp_view_help.specs.{Phrases.terms_texts, declared.phrase.Terms.Terms}

-- the number of `{` in a text
abbrev pub places : List ℕ → ℕ
places text = count_by (λ byte. byte == 123) text

abbrev pub count : Terms → ℕ
count terms = length (terms_texts terms)
