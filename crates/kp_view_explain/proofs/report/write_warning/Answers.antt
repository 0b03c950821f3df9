use Rattle.std.proofs.Common.{◌∙◌, ap, subst, List, ℕ, ◌++◌}
use Rattle.std.specs.Prelude.{codes}
use Rattle.kp_view_message.specs.Rules.{warning_number}
use Rattle.kp_view_explain.specs.Messages.{AppendsExcerpt, head_text}
use Rattle.kp_view_explain.proofs.report.write_warning.Goals as goal

pub returns : goal.returns
returns c =
    let line = c.as_bytes.result.now in
    let head = head_text c.args.file.now c.args.place (codes "warning W") in
    let begun =
    c.in_ok-extend_from_slice.ensures.items
    ∙ ap (λ (l : List ℕ). l ++ line) c.in_ok-write_head.ensures
    ∙ ap (λ (n : ℕ). (c.write_gap.new.out.items ++ head n) ++ line) c.number.ensures
    ∙ ap (λ (l : List ℕ). (l ++ head (warning_number c.args.warning)) ++ line) c.in_ok-write_gap.ensures in
    (line, subst (λ (l : List ℕ). AppendsExcerpt c.args.text.now c.args.place l c.write_excerpt.new.out.items) begun c.in_ok-write_excerpt.ensures)
