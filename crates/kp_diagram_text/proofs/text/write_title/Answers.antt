use Rattle.std.proofs.Common.{◌≡◌, ◌∙◌, ℕ, List, ◌++◌, ap₂, append_assoc, decimal}
use Rattle.std.specs.Prelude.{codes}
use Rattle.kp_diagram_text.{specs.Text.counted, specs.Text.size_text, specs.Text.title, proofs.InOrder.wrote_as}
use Rattle.kp_diagram_text.proofs.text.write_title.Goals as goal

split : (name a b c : List ℕ) → name ++ (codes ": " ++ (a ++ (codes " stages, " ++ (b ++ (c ++ codes "\n\ninstruction ")))))
    ≡ (((((name ++ codes ": ") ++ a) ++ codes " stages, ") ++ b) ++ c) ++ codes "\n\ninstruction "
split name a b c = simp append_assoc

title_is : (name words : List ℕ) (k n count : ℕ) → k ≡ n → words ≡ counted count (codes " cycle") (codes " cycles")
    → name ++ (codes ": " ++ (decimal k ++ (codes " stages, " ++ (decimal count ++ (words ++ codes "\n\ninstruction "))))) ≡ title name n count
unfolding title size_text
title_is name words k n count same is =
    ap₂ (λ (j : ℕ) (w : List ℕ). name ++ (codes ": " ++ (decimal j ++ (codes " stages, " ++ (decimal count ++ (w ++ codes "\n\ninstruction ")))))) same is
    ∙ split name (decimal n) (decimal count) (counted count (codes " cycle") (codes " cycles"))

pub returns : goal.returns
returns g c = wrote_as _ _ _ _ _ _ _ _ (title_is c.args.name.now _ _ c.args.stages c.args.count c.from.ensures c.counted.ensures) c.write_parts.ensures
