use Rattle.std.proofs.Common.{◌∙◌, ◌≤◌, ℕ, List, length, ap, subst, arith, Err}
use Rattle.kp_core.{specs.Answers.text_said, specs.Due.DueOfHead, proofs.Outcomes.of_excess, proofs.Outcomes.of_input}
use Rattle.kp_core.proofs.top.of_source.Goals as goal

pub returns-in_ok-of_excess-in-Err-TooLong-clause-due : goal.returns-in_ok-of_excess-in-Err-TooLong-clause-due
returns-in_ok-of_excess-in-Err-TooLong-clause-due g c = λ name is.
    let (taken, consumed, count) = c.read_all.ensures.too_long (c.in-Err-TooLong.is ∙ ap Err c.in-Err-TooLong.field-0-is) in
    let a = c.in_ok-of_excess-in-Err-TooLong.field-0 in
    of_excess c.args.form name c.args.file.now _ _ taken a.status (text_said a.said) is consumed count c.in_ok-of_excess-in-Err-TooLong.ensures.said

pub returns-in_ok-of_input-in-Ok-clause-due : goal.returns-in_ok-of_input-in-Ok-clause-due
returns-in_ok-of_input-in-Ok-clause-due g c = λ name is.
    let file = c.args.file.now in
    let a = c.in_ok-of_input-in-Ok.field-0 in
    let few : length c.in-Ok.input.items ≤ 16777216 = omega (arith, c.in-Ok.ensures.fits, c.as_slice.ensures.len, ap length c.as_slice.ensures.value) in
    let due = subst (λ (x : List ℕ). DueOfHead c.args.form file x a.status (text_said a.said)) c.as_slice.ensures.value c.in_ok-of_input-in-Ok.ensures.due in
    of_input c.args.form name file _ _ c.in-Ok.input.items a.status (text_said a.said) is c.in-Ok.ensures.all c.in-Ok.ensures.end few due
