use Rattle.std.proofs.Common.{◌∙◌, ℕ, List, subst}
use Rattle.kp_base.specs.Bytes.{Writes}
use Rattle.kp_view.{specs.Texts.names_text, proofs.Pieces.five_pieces}
use Rattle.kp_view.proofs.complaint.write_names.Goals as goal

pub returns-clause-text : goal.returns-clause-text
unfolding names_text
returns-clause-text g c =
    subst (λ (text : List ℕ). Writes (g.K.Sink.held c.args.err.now) (g.K.Sink.held c.write_pieces.new.sink) text c.write_pieces.result)
    (five_pieces c.as_slice.result c.as_bytes.result c.as_slice-2.result c.as_bytes-2.result c.as_slice-3.result (λ piece. piece.now) _ _ _ _ _
    c.as_slice.ensures (c.as_bytes.ensures.value ∙ c.format.ensures.text) c.as_slice-2.ensures (c.as_bytes-2.ensures.value ∙ c.format-2.ensures.text) c.as_slice-3.ensures)
    c.write_pieces.ensures.text
