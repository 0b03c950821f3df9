-- What is asked for by words that are matched.
use Rattle.std.proofs.Common.{◌≡◌, ◌∙◌, ◌⊎◌, Bool, ℕ, cond, true, false, refl, sym, ap, List, [], ◌∷◌, length, Option, Some, None, inl, inr, codes}
use Rattle.std.specs.Prelude.{nat_lt, option_and_then}
use Rattle.kp_command_line.{specs.Words.Matched, specs.Words.Text, specs.Words.matched_first, specs.Words.matched_in, specs.Words.most_after, proofs.Parses.named_or}
use Rattle.kp_view_words.specs.Words.{task_named, task_with, word_named}
use Rattle.kp_view_words.specs.declared.words.Word.TheVariants as words
use Rattle.kp_view_words.specs.inner.Matching.{names, task_matched}

abbrev IsName : Text → Type 0
IsName name = most_after names name ≡ Some 14

-- a name is that of a word, or of none
known : (name : Text) → (word_named name ≡ None) ⊎ IsName name
known name =
    named_or IsName name (codes "diagram") words.Diagram _ refl (named_or IsName name (codes "svg") words.Svg _ refl (named_or IsName name (codes "page") words.Page _ refl
    (named_or IsName name (codes "paths") words.Paths _ refl (named_or IsName name (codes "stalls") words.Stalls _ refl
    (named_or IsName name (codes "depth") words.Depth _ refl (named_or IsName name (codes "same") words.Same _ refl (inl refl)))))))

pub matched : (all : List Text) → option_and_then task_matched (matched_in names 0 all) ≡ task_named all
matched [] = refl
matched (name ∷ rest) = go (known name)
  where
    none_by : (few : Bool) (m : Matched) → task_matched m ≡ None → option_and_then task_matched (cond few None (Some m)) ≡ None
    none_by true m h = refl
    none_by false m h = h

    unnamed : (most : Option ℕ) → word_named name ≡ None → option_and_then task_matched (matched_first most 0 name rest) ≡ None
    unnamed None none = none_by (nat_lt 0 (length (name ∷ rest))) (record { name = None; rest = name ∷ rest }) refl
    unnamed (Some most) none = none_by (nat_lt most (length rest)) (record { name = Some name; rest = rest }) (ap (option_and_then (λ word. task_with word rest)) none)

    none_named : (few : Bool) → word_named name ≡ None → cond few None (option_and_then (λ word. task_with word rest) (word_named name)) ≡ None
    none_named true none = refl
    none_named false none = ap (option_and_then (λ word. task_with word rest)) none

    in_either : (few : Bool) → option_and_then task_matched (cond few None (Some (record { name = Some name; rest = rest })))
        ≡ cond few None (option_and_then (λ word. task_with word rest) (word_named name))
    in_either true = refl
    in_either false = refl

    go : (word_named name ≡ None) ⊎ IsName name → option_and_then task_matched (matched_in names 0 (name ∷ rest)) ≡ task_named (name ∷ rest)
    go (inl none) = unnamed (most_after names name) none ∙ sym (none_named (nat_lt 14 (length rest)) none)
    go (inr is) = ap (λ (most : Option ℕ). option_and_then task_matched (matched_first most 0 name rest)) is ∙ in_either (nat_lt 14 (length rest))
