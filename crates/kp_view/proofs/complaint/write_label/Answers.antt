use Rattle.std.proofs.Common.{◌++◌, List, [], ℕ, ap₂, subst}
use Rattle.kp_base.specs.Bytes.{Writes}
use Rattle.kp_view.specs.Texts.{label_wrong}
use Rattle.kp_view.proofs.complaint.write_label.Goals as goal

pub returns-clause-text : goal.returns-clause-text
unfolding label_wrong
returns-clause-text g c =
    let word = c.args.word.now in
    subst (λ (t : List ℕ). Writes (g.K.Sink.held c.args.err.now) (g.K.Sink.held c.write_pieces.new.sink) t c.write_pieces.result)
    (ap₂ (λ (a b : List ℕ). a ++ (word ++ (b ++ []))) c.as_slice.ensures c.as_slice-2.ensures) c.write_pieces.ensures.text
