use Rattle.std.proofs.Common.{subst}
use Rattle.kp_view_explain.specs.{inner.Reading.IsReadAs, declared.reading.Reading.Reading}
use Rattle.kp_view_explain.proofs.Said.{unread_next, unread_said}
use Rattle.kp_view_explain.proofs.of_job.explain_job.Goals as goal

pub returns-in-Refused-clause-said : goal.returns-in-Refused-clause-said
returns-in-Refused-clause-said c =
    let file = c.args.file.now in
    let text = c.args.text.now in
    unread_said file text c.in-Refused.said c.args.strict (subst (λ (r : Reading). IsReadAs file text r) c.in-Refused.is c.in_ok-said.ensures)

pub returns-in-Refused-clause-next : goal.returns-in-Refused-clause-next
returns-in-Refused-clause-next c =
    let file = c.args.file.now in
    let text = c.args.text.now in
    unread_next file text c.in-Refused.said c.requires (subst (λ (r : Reading). IsReadAs file text r) c.in-Refused.is c.in_ok-said.ensures)
