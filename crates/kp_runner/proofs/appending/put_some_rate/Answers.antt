use Rattle.std.proofs.Common.{◌∙◌, ◌++◌, ℕ, List, ap, append_assoc, codes}
use Rattle.kp_diagram_text.specs.Text.{rate}
use Rattle.kp_runner.proofs.appending.put_some_rate.Goals as goal

pub returns : goal.returns
returns c =
    let end = codes " cycles per instruction" in
    let before = c.args.out.now.items in
    let per = rate c.args.cycles c.args.retired in
    c.in_ok-extend_from_slice-2.ensures.items
    ∙ ap (λ (x : List ℕ). x ++ end) (c.in_ok-put_ratio.ensures ∙ ap (λ (x : List ℕ). x ++ per) c.in_ok-extend_from_slice.ensures.items)
    ∙ append_assoc (before ++ codes ", ") per end ∙ append_assoc before (codes ", ") (per ++ end)
