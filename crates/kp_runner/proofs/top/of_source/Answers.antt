use Rattle.std.proofs.Common.{◌∙◌, ◌≤◌, ℕ, List, length, map, ap, subst, arith, Err}
use Rattle.kp_runner.{specs.Words.settings_seen, specs.Due.DueOfText, specs.Reading.named, specs.Reading.file_seen, proofs.Outcomes.of_excess, proofs.Outcomes.of_input}
use Rattle.kp_runner.proofs.top.of_source.Goals as goal

pub returns-in_ok-refused-in-Err-TooLong-clause-due : goal.returns-in_ok-refused-in-Err-TooLong-clause-due
returns-in_ok-refused-in-Err-TooLong-clause-due g c = λ file is.
    let (taken, consumed, count) = c.read_all.ensures.too_long (c.in-Err-TooLong.is ∙ ap Err c.in-Err-TooLong.field-0-is) in
    let a = c.in_ok-refused-in-Err-TooLong.field-0 in
    of_excess (settings_seen c.args.settings.now) file c.args.name.now (map file_seen c.args.files.now) _ _ taken a.status a.text.items is consumed count
    (rw (← c.e.ensures) c.in_ok-refused-in-Err-TooLong.ensures)

pub returns-in_ok-of_input-in-Ok-clause-due : goal.returns-in_ok-of_input-in-Ok-clause-due
returns-in_ok-of_input-in-Ok-clause-due g c = λ file is.
    let name = c.args.name.now in
    let s = settings_seen c.args.settings.now in
    let files = map file_seen c.args.files.now in
    let a = c.in_ok-of_input-in-Ok.field-0 in
    let few : length c.in-Ok.input.items ≤ 16777216 = omega (arith, c.in-Ok.ensures.fits, c.as_slice.ensures.len, ap length c.as_slice.ensures.value) in
    let due = subst (λ (x : List ℕ). DueOfText s (named name x) files a.status a.text.items) c.as_slice.ensures.value c.in_ok-of_input-in-Ok.ensures in
    of_input s file name files _ _ c.in-Ok.input.items a.status a.text.items is c.in-Ok.ensures.all c.in-Ok.ensures.end few due
