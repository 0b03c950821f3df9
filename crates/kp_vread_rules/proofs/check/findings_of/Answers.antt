use Rattle.std.proofs.Common.{◌≡◌, ◌∙◌, [], take, ap, sym}
use Rattle.std.proofs.lemmas.Result.{IfOk-weaker}
use Rattle.kp_base.specs.Findings.{findings}
use Rattle.kp_vread_rules.specs.{Faults.in_text, NameFaults.names_asked, Findings.name_findings, Findings.width_findings, Findings.driver_findings, Findings.module_findings}
use Rattle.kp_vread_rules.proofs.Breaking.{none_yet, names_fit, names_end, widths_end, drivers_end}
use Rattle.kp_vread_rules.proofs.check.findings_of.Goals as goal

pub returns-then-ends : goal.returns-then-ends
returns-then-ends c =
    let text = c.args.text.now in
    names_end text c.args.whole.now c.args.most c.in_ok-of_names.of_names.found
    (c.in_ok-of_names.ensures ∙ ap (λ os. take c.args.most (findings (in_text text (names_asked os [] os)))) c.requires.names)
    (sym c.ends.ensures ∙ c.if-ends.true)

pub width_findings-requires-clause-names : goal.width_findings-requires-clause-names
width_findings-requires-clause-names c =
    let text = c.args.text.now in
    names_fit text c.args.whole.now
    (none_yet c.args.most (name_findings text c.args.whole.now) c.in_ok-of_names.of_names.found
    (c.in_ok-of_names.ensures ∙ ap (λ os. take c.args.most (findings (in_text text (names_asked os [] os)))) c.requires.names) (sym c.ends.ensures ∙ c.if-ends.false))

pub returns-then-ends-2 : goal.returns-then-ends-2
returns-then-ends-2 c =
    let text = c.args.text.now in
    let none = none_yet c.args.most (name_findings text c.args.whole.now) c.in_ok-of_names.of_names.found
    (c.in_ok-of_names.ensures ∙ ap (λ os. take c.args.most (findings (in_text text (names_asked os [] os)))) c.requires.names) (sym c.ends.ensures ∙ c.if-ends.false) in
    widths_end text c.args.whole.now c.args.most c.in_ok-of_widths.of_widths.found none c.in_ok-of_widths.ensures (sym c.ends-2.ensures ∙ c.if-ends-2.true)

pub returns : goal.returns
returns c =
    let text = c.args.text.now in
    let m = c.args.whole.now in
    let none = none_yet c.args.most (name_findings text m) c.in_ok-of_names.of_names.found
    (c.in_ok-of_names.ensures ∙ ap (λ os. take c.args.most (findings (in_text text (names_asked os [] os)))) c.requires.names) (sym c.ends.ensures ∙ c.if-ends.false) in
    let none_w = none_yet c.args.most (width_findings text m) c.in_ok-of_widths.of_widths.found c.in_ok-of_widths.ensures (sym c.ends-2.ensures ∙ c.if-ends-2.false) in
    IfOk-weaker c.driver_findings.result (λ f. f.found ≡ take c.args.most (driver_findings text m)) (λ f. f.found ≡ take c.args.most (module_findings text m))
    (λ f e. drivers_end text m c.args.most f.found none none_w e) c.driver_findings.ensures
