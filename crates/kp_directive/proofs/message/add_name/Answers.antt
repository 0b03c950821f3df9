use Rattle.std.proofs.Common.{◌≡◌, ◌∙◌, ◌++◌, List, ℕ, OnOk, ap, append_assoc, length, refl, subst}
use Rattle.kp_directive.{specs.Messages.name, specs.Messages.reason, proofs.Texts.three_pieces}
use Rattle.kp_directive.proofs.message.add_name.Goals as goal

pub returns : goal.returns
unfolding name
returns c =
    let said = three_pieces (λ piece. piece.now) c.as_slice.result c.args.word c.as_slice-2.result _ _ _ c.as_slice.ensures refl c.as_slice-2.ensures in
    let reason_is = reason (length c.args.word.now) in
    subst (λ (t : List ℕ). OnOk c.add_reason.result (c.add_reason.new.out.items ≡ t))
    (ap (λ (t : List ℕ). t ++ reason_is) (c.in_ok-add.ensures ∙ ap (λ (t : List ℕ). c.args.out.now.items ++ t) said) ∙ append_assoc c.args.out.now.items _ reason_is)
    c.add_reason.ensures
