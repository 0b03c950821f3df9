use Rattle.std.proofs.Common.{◌≡◌, ◌∙◌, ℕ, List, Result, Err, ap, subst}
use Rattle.kp_until.specs.Expected.{Script, expected_of}
use Rattle.kp_until.specs.declared.expected.LineFault.{LineFault}
use Rattle.kp_runner.specs.{Reading.bad_expect, Reading.or_said, inner.Reading.own_seen}
use Rattle.kp_runner.proofs.reading.script_after.Goals as goal

pub returns-in-Err-Fault-clause-read : goal.returns-in-Err-Fault-clause-read
returns-in-Err-Fault-clause-read c =
    let own = own_seen c.args.own.now in
    let fault = c.in-Err-Fault.fault in
    let read = rw c.in-Err-Fault.field-0-is at c.in-Err-Fault.ensures.read in (
      bad_expect own c.args.directives.now fault,
      ap (λ (r : Result Script LineFault). or_said (bad_expect own c.args.directives.now) r)
          (subst (λ (x : List ℕ). expected_of c.args.layout.now x ≡ Err fault) (c.as_slice.ensures.value ∙ c.in_ok-lines.ensures) read),
      c.in_ok-expect_message-in-Err-Fault.ensures,
    )
