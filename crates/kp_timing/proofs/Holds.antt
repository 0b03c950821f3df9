-- The step of the loop that writes the instructions in the stages.
use Rattle.std.proofs.Common.{◌≡◌, ◌∙◌, ℕ, suc, ◌+◌, ◌-◌, ◌<◌, List, ◌++◌, Option, ap, sym, arith}
use Rattle.std.{proofs.lemmas.List.append_assoc, specs.Prelude.codes}
use Rattle.kp_timing.specs.Lines.{held_text, holds_text}

pub hold_more : (hold : ℕ → Option ℕ) (front more : List ℕ) (n k : ℕ) → k < n → more ≡ front ++ (codes " " ++ held_text (hold k))
    → more ++ holds_text hold (n - (k + 1)) (k + 1) ≡ front ++ holds_text hold (n - k) k
hold_more hold front more n k stage e =
    let left : n - k ≡ suc (n - (k + 1)) = omega arith in
    let next : k + 1 ≡ suc k = omega arith in
    let here = codes " " ++ held_text (hold k) in
    ap (λ (x : List ℕ). x ++ holds_text hold (n - (k + 1)) (k + 1)) e
    ∙ append_assoc front here (holds_text hold (n - (k + 1)) (k + 1))
    ∙ ap (λ (j : ℕ). front ++ (here ++ holds_text hold (n - (k + 1)) j)) next
    ∙ sym (ap (λ (m : ℕ). front ++ holds_text hold m k) left)
