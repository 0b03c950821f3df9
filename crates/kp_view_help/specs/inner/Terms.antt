-- A term by its number.
use Rattle.std.specs.{Prelude.ℕ, Prelude.◌≡◌, Prelude.[], Prelude.slice_index_or, Prelude.Option, Prelude.MatchOption, Borrow.Bor}
use Rattle.kp_view_help.specs.{Texts.term_text, Phrases.terms_texts, declared.phrase.Term.Term, declared.phrase.Terms.Terms}

-- The term of this number, counted from 0, if there is one.
abbrev pub IsTermAt : Terms → ℕ → Option (Bor Term) → Type 0
IsTermAt terms number result =
    MatchOption result (slice_index_or (terms_texts terms) number [] ≡ []) (λ t. slice_index_or (terms_texts terms) number [] ≡ term_text t.now)
