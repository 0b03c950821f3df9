use Rattle.std.proofs.Common.{◌∙◌, List, ap, map, sym, subst}
use Rattle.std.specs.Option.{is_some}
use Rattle.kp_vlog.specs.{Rules.all_driven, Rules.nothing, Occurrences.Occurrence, Occurrences.names}
use Rattle.kp_vread_rules.specs.{DriverFaults.drivers_asked, inner.Listed.occurrence_of, inner.Sets.AlikeDriven, inner.Sets.all_by}
use Rattle.kp_vread_rules.proofs.{AllDriven.module_asked, Noting.all_found}
use Rattle.kp_vread_rules.proofs.driver_rule.driver_findings.Goals as goal

pub returns : goal.returns
returns c =
    let m = c.args.whole.now in
    let os = map occurrence_of c.list-2.result.now in
    let d = c.drive_all.new.all in
    all_found c.args.text.now c.args.most c.new-findings.result c.note_drivers.new.findings (drivers_asked os c.is_some.result d c.new-so_far.result os)
    (drivers_asked (names m) (is_some m.reset) (all_driven m) nothing (names m)) c.new-findings.ensures c.in_ok-note_drivers.ensures
    (ap (λ b. drivers_asked os b d c.new-so_far.result os) c.is_some.ensures
    ∙ ap (λ z. drivers_asked os (is_some m.reset) d z os) c.new-so_far.ensures
    ∙ module_asked m d os (c.list-2.ensures ∙ c.requires.names)
    (subst (λ (xs : List Occurrence). AlikeDriven d (all_by xs nothing)) (c.list.ensures ∙ sym c.list-2.ensures) (rw c.new-all.ensures at c.in_ok-drive_all.ensures)))
