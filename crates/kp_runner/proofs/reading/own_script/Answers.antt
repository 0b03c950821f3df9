use Rattle.std.proofs.Common.{◌≡◌, ◌∙◌, Option, ap, sym}
use Rattle.kp_directive.specs.{Directives.directives_of, Faults.broken_in, declared.directive.DirectiveFault.DirectiveFault}
use Rattle.kp_runner.specs.{Reading.misdirected, Reading.script_unless, inner.Reading.own_seen}
use Rattle.kp_runner.proofs.reading.own_script.Goals as goal

pub returns-in-Some-clause-read : goal.returns-in-Some-clause-read
returns-in-Some-clause-read c =
    let own = own_seen c.args.own.now in
    let found = c.in-Some.ensures.fault ∙ ap broken_in (c.as_slice.ensures.value ∙ c.in_ok-directives.ensures.directives) in (
      misdirected own c.in-Some.fault,
      ap (λ (o : Option DirectiveFault). script_unless c.args.layout.now own (directives_of c.args.own.now.text.now c.args.own.now.end) o) (sym found),
      c.in_ok-misdirected-in-Some.ensures,
    )
