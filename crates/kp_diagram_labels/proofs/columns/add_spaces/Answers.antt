use Rattle.std.proofs.{Common.◌≡◌, Common.◌∙◌, Common.List, Common.ℕ, Common.[], Common.◌∷◌, Common.◌++◌, Common.ap, Common.append_assoc, lemmas.List.replicate-append-replicate}
use Rattle.kp_diagram_labels.proofs.columns.add_spaces.Goals as goal

pub loop-i-preserved : goal.loop-i-preserved
loop-i-preserved c =
    c.in_ok-push.ensures.items ∙ ap (λ (t : List ℕ). t ++ 32 ∷ []) c.loop-i.invariant ∙ append_assoc c.args.out.now.items _ (32 ∷ [])
    ∙ ap (λ (t : List ℕ). c.args.out.now.items ++ t) (replicate-append-replicate _ 1 32)
