use Rattle.std.proofs.Common.{◌∙◌, ap, List, ℕ, [], ◌∷◌, ◌++◌}
use Rattle.std.specs.String.{string_bytes}
use Rattle.kp_view_message.specs.Texts.{message_text}
use Rattle.kp_view_explain.proofs.Appending.{lined}
use Rattle.kp_view_explain.proofs.report.write_message.Goals as goal

pub returns-clause-line : goal.returns-clause-line
returns-clause-line c =
    let line = string_bytes c.in_ok-line.line in
    lined c.args.text.now c.args.out.now.items line c.push.new.self.items _ c.args.place (message_text c.args.message) c.in_ok-line.ensures.ok
    (c.in_ok-push.ensures.items
    ∙ ap (λ (l : List ℕ). l ++ 10 ∷ []) c.in_ok-extend_from_slice.ensures.items
    ∙ ap (λ (l : List ℕ). (c.args.out.now.items ++ l) ++ 10 ∷ []) c.as_bytes.ensures.value)
    c.in_ok-write_excerpt.ensures
