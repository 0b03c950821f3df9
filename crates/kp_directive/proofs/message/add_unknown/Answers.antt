use Rattle.std.proofs.Common.{◌≡◌, ◌++◌, List, ℕ, OnOk, refl, subst}
use Rattle.kp_directive.{specs.Messages.unknown, proofs.Texts.three_pieces}
use Rattle.kp_directive.proofs.message.add_unknown.Goals as goal

pub returns : goal.returns
unfolding unknown
returns c =
    subst (λ (t : List ℕ). OnOk c.add.result (c.add.new.out.items ≡ c.args.out.now.items ++ t))
    (three_pieces (λ piece. piece.now) c.as_slice.result c.args.word c.as_slice-2.result _ _ _ c.as_slice.ensures refl c.as_slice-2.ensures) c.add.ensures
