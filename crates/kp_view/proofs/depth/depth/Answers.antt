use Rattle.std.proofs.Common.{◌≡◌, ℕ, List, None, refl, subst}
use Rattle.kp_view.specs.{Depths.IsDepthText, Due.Says, Due.are_inside, Ends.Ends}
use Rattle.kp_view.proofs.Ends.{said}
use Rattle.kp_view.proofs.depth.depth.Goals as goal

pub returns : goal.returns
returns g c =
    let text = c.in_ok-text.text.items in
    said g.K.Sink.held g.K.Sink.faults None None ⊥ (λ status t. (status ≡ 0) × IsDepthText c.args.job.now.design.job (are_inside c.args.memories) t) text
    (refl, c.in_ok-text.ensures) _ _ _
    (subst (λ (t : List ℕ). Ends g.K.Sink.held g.K.Sink.faults ⊥ (Says 0 t) None c.args.out.now c.written-end.new.out c.written-end.result)
    c.as_slice.ensures.value c.written-end.ensures)
