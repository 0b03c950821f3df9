-- Lines of a text.
use Rattle.std.proofs.Common.{◌≡◌, ◌∙◌, refl, ap, ℕ, zero, suc, ◌+◌, ◌-◌, ◌<◌, ◌≤◌, Bool, List, [], length, get_or, drop, arith}
use Rattle.std.{proofs.lemmas.List.at_drop_more, proofs.lemmas.List.at_drop_all, specs.Prelude.if◌then◌else◌, specs.Prelude.◌==◌}
use Rattle.kp_view_excerpt.specs.Lines.{after_lines}

-- one more byte, before a later line
pub lines_next : (number at : ℕ) (text : List ℕ) (i : ℕ) (breaks : Bool) → i < length text → at < number → (get_or text i 0 == 10) ≡ breaks
    → after_lines (number - at) (drop i text)
    ≡ (if breaks then after_lines (number - (at + 1)) (drop (i + 1) text) else after_lines (number - at) (drop (i + 1) text))
lines_next number at text i breaks b more is =
    let one : number - at ≡ suc (number - (at + 1)) = omega (arith, more) in
    let rest = drop (i + 1) text in
    let step : after_lines (suc (number - (at + 1))) (drop i text)
    ≡ (if get_or text i 0 == 10 then after_lines (number - (at + 1)) rest else after_lines (suc (number - (at + 1))) rest)
    = at_drop_more (after_lines (suc (number - (at + 1)))) text i 0 b in
    rw one (step ∙ ap (λ (x : Bool). if x then after_lines (number - (at + 1)) rest else after_lines (suc (number - (at + 1))) rest) is)

-- nothing follows the end
no_lines : (n : ℕ) → after_lines n [] ≡ []
no_lines zero = refl
no_lines (suc n) = refl

pub lines_end : (n : ℕ) (text : List ℕ) (i : ℕ) → length text ≤ i → after_lines n (drop i text) ≡ []
lines_end n text i b = at_drop_all (after_lines n) text i b ∙ no_lines n
