use Rattle.std.proofs.Common.{◌∙◌, [], ap, map}
use Rattle.kp_vread_rules.{specs.NameFaults.names_asked, specs.inner.Listed.occurrence_of, proofs.Noting.all_found}
use Rattle.kp_vread_rules.proofs.name_rule.name_findings.Goals as goal

pub returns : goal.returns
returns c =
    let os = map occurrence_of c.list.result.now in
    all_found c.args.text.now c.args.most c.new-findings.result c.note_names.new.findings (names_asked os c.new-known.result os) (names_asked c.args.names.now [] c.args.names.now)
    c.new-findings.ensures c.in_ok-note_names.ensures (ap (λ ks. names_asked os ks os) c.new-known.ensures ∙ ap (λ xs. names_asked xs [] xs) c.list.ensures)
