use Rattle.std.proofs.Common.{◌∙◌, [], ap}
use Rattle.kp_vlog.{specs.Occurrences.names, proofs.Scans.names_fit}
use Rattle.kp_vread_rules.{specs.WidthFaults.widths_asked, specs.inner.Sizing.widths_by, proofs.Noting.all_found, proofs.Sizing.width_same}
use Rattle.kp_vread_rules.proofs.width_rule.width_findings.Goals as goal

pub returns : goal.returns
returns c =
    let m = c.args.whole.now in
    all_found c.args.text.now c.args.most c.new-findings.result c.note_widths.new.findings _ (widths_asked m) c.new-findings.ensures c.in_ok-note_widths.ensures
    (ap (λ os. widths_by c.in_ok-sizes.sizes os m) (c.list.ensures ∙ c.requires.list) ∙ width_same m c.in_ok-sizes.sizes (names_fit [] (names m) c.requires.names) c.in_ok-sizes.ensures)
