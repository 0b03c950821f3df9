use Rattle.std.proofs.Common.{◌≡◌, ◌++◌, ◌∙◌, List, ℕ, ap, subst}
use Rattle.kp_base.specs.declared.refusal.Refusal.{Refusal}
use Rattle.kp_vread.specs.Matching.{not_of_job}
use Rattle.kp_view_excerpt.specs.Notes.{AppendsNoteAt}
use Rattle.kp_view_texts.specs.Heads.{rule_head}
use Rattle.kp_view_explain.{specs.Showing.job_mark, proofs.Inputs.other_netlist, proofs.Places.noted}
use Rattle.kp_view_explain.proofs.verilog.explain_netlist.Goals as goal

pub returns-in_ok-refused-in-Some-clause-said : goal.returns-in_ok-refused-in-Some-clause-said
returns-in_ok-refused-in-Some-clause-said c =
    let head = c.args.head.now in
    let file = c.args.file.now in
    let text = c.args.text.now in
    let facts = c.write_other.new.out.items in
    let refused = c.in_ok-refused-in-Some.ensures in
    let said = c.in_ok-refused-in-Some.field-0.text.items in
    let note =
    subst (λ (l : List ℕ). AppendsNoteAt text not_of_job.place (job_mark text not_of_job) l facts) c.new-facts.ensures.items
    c.in_ok-write_other-in-Some.ensures in
    let whole = refused.whole ∙ ap (λ (l : List ℕ). rule_head file c.refusal-refusal.result ++ l) c.as_slice.ensures.value in
    let shown = subst (λ (r : Refusal). said ≡ rule_head file r ++ facts) c.refusal-refusal.ensures whole in
    other_netlist file text head.job.design.job head.rest c.args.net.now _ said c.requires c.in-Some.ensures.exact refused.status
    (noted file text facts said not_of_job _ note shown)
