use Rattle.std.proofs.Common.{◌∙◌, ◌≤◌, ℕ, List, length, ap, subst, arith, Err}
use Rattle.kp_view_explain.specs.Explaining.{ExplainsText, ShowsFirst}
use Rattle.kp_view_explain.{specs.Listing.ListsNext, proofs.Inputs.of_excess, proofs.Inputs.of_input}
use Rattle.kp_view_explain.proofs.top.explanation.Goals as goal

pub returns-in_ok-explain_excess-in-Err-TooLong-clause-explained : goal.returns-in_ok-explain_excess-in-Err-TooLong-clause-explained
returns-in_ok-explain_excess-in-Err-TooLong-clause-explained g c =
    let (taken, consumed, count) = c.read_all.ensures.too_long (c.in-Err-TooLong.is ∙ ap Err c.in-Err-TooLong.field-0-is) in
    of_excess c.args.subject c.args.strict c.args.file.now _ _ taken _ _ consumed count
    (c.in_ok-explain_excess-in-Err-TooLong.ensures.said c.args.subject c.args.strict taken)

pub returns-in_ok-explain-in-Ok-clause-explained : goal.returns-in_ok-explain-in-Ok-clause-explained
returns-in_ok-explain-in-Ok-clause-explained g c =
    let file = c.args.file.now in
    let said = c.in_ok-explain-in-Ok.field-0 in
    let few : length c.in-Ok.input.items ≤ 16777216 = omega (arith, c.in-Ok.ensures.fits, c.as_slice.ensures.len, ap length c.as_slice.ensures.value) in
    let explained = subst (λ (x : List ℕ). ExplainsText c.args.subject c.args.strict file x said.status said.text.items) c.as_slice.ensures.value c.in_ok-explain-in-Ok.ensures.said in
    of_input c.args.subject c.args.strict file _ _ c.in-Ok.input.items said.status said.text.items c.in-Ok.ensures.all c.in-Ok.ensures.end few explained
    (λ job. subst (λ (x : List ℕ). ListsNext file x said.text.items) c.as_slice.ensures.value (c.in_ok-explain-in-Ok.ensures.next job))
    (subst (λ (x : List ℕ). ShowsFirst c.args.subject file x said.text.items) c.as_slice.ensures.value c.in_ok-explain-in-Ok.ensures.shown)
