use Rattle.std.proofs.Common.{◌≡◌, ◌∙◌, ℕ, ◌+◌, ◌-◌, List, [], ◌++◌, length, ap, append-nil, sym, length-append}
use Rattle.kp_diagram_text.specs.{Charts.names_of, Marks.shown, Text.in_column, Text.sign, Text.spaces, Text.stage_name}
use Rattle.kp_diagram_text.proofs.InOrder.{wrote_as}
use Rattle.kp_diagram_text.proofs.lines.write_cell.Goals as goal

cell_is : (width here n : ℕ) (piece name given wanted : List ℕ) → piece ≡ name → given ≡ wanted → n ≡ length name → here ≡ width - (n + length given)
    → spaces here ++ (piece ++ (given ++ [])) ≡ in_column width (name ++ wanted)
cell_is width here n piece name given wanted named same long is =
    ap (λ (p : List ℕ). spaces here ++ (p ++ (given ++ []))) named
    ∙ ap (λ (g : List ℕ). spaces here ++ (name ++ g)) (append-nil given)
    ∙ ap (λ (h : ℕ). spaces h ++ (name ++ given))
    (is ∙ ap (λ (m : ℕ). width - (m + length given)) long ∙ ap (λ (m : ℕ). width - m) (sym (length-append name given)))
    ∙ ap (λ (s : List ℕ). in_column width (name ++ s)) same

pub returns : goal.returns
returns g c =
    wrote_as _ _ _ _ _ _ _ _
    (cell_is c.args.width c.saturating_sub-room.result c.name_length.result _ (stage_name (names_of c.args.chart.now) c.args.k)
    c.sign_of-sign.result.now (sign (shown c.args.mark)) c.name.ensures c.sign_of-sign.ensures.text c.name_length.ensures.value c.saturating_sub-room.ensures)
    c.write_parts.ensures
