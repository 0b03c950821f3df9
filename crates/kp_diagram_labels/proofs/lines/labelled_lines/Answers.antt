use Rattle.std.proofs.Common.{◌≡◌, ◌∙◌, List, All, ap, map, subst, sym}
use Rattle.std.proofs.lemmas.{Result.IfOk-weaker}
use Rattle.kp_image.proofs.Given.{starts}
use Rattle.kp_run.{specs.Columns.AreColumns, specs.Columns.Taken, proofs.Gathering.rows_fit_taken, proofs.Given.feeds_many, proofs.Given.rows_given}
use Rattle.kp_pipeline.specs.Machine.{Samples}
use Rattle.kp_diagram_text.specs.{Labelled.IsEntry, Labelled.fetch_at, declared.entries.Entry.Entry, declared.labelled.Labelled.Labelled}
use Rattle.kp_until_run.proofs.{Reaching.agrees, Reaching.net_rows}
use Rattle.kp_diagram_labels.proofs.Runs.{given_are}
use Rattle.kp_listing.specs.Seen.{listing_seen}
use Rattle.kp_diagram_labels.{specs.Texts.label_values, specs.Texts.text_beside, proofs.Texts.all_entries, proofs.Texts.each_entry}
use Rattle.kp_diagram_labels.proofs.lines.labelled_lines.Goals as goal

pub synth-requires-clause-suits : goal.synth-requires-clause-suits
synth-requires-clause-suits c = let job = c.args.asked.now.job.now in rw job.start (starts _ c.job-kept.ensures.sound.names job.unbroken)

pub with_labels-requires-clause-columns : goal.with_labels-requires-clause-columns
with_labels-requires-clause-columns c =
    let accepted = c.args.asked.now.job.now in
    rw c.as_slice.ensures.value
    (c.in_ok-columns.ensures.count ∙ sym (feeds_many accepted.design.job accepted.sections.inputs c.job-kept.ensures.sound.names accepted.unbroken accepted.inputs))

pub with_labels-requires-clause-samples : goal.with_labels-requires-clause-samples
with_labels-requires-clause-samples c i =
    let accepted = c.args.asked.now.job.now in
    let job = accepted.design.job in
    let fit = rows_given job accepted.sections.inputs c.job-kept.ensures.sound.names accepted.unbroken accepted.inputs in
    rw c.as_slice.ensures.value (rows_fit_taken job (net_rows job c.in_ok-net.net c.args.end) c.in_ok-columns.columns.items fit c.in_ok-columns.ensures i)

pub returns-clause-lines : goal.returns-clause-lines
returns-clause-lines c =
    let chart = c.args.chart.now in
    IfOk-weaker c.with_labels.result _ _
    (λ lines are. each_entry (λ (l : Labelled). l.entry) (fetch_at chart) lines.items ∙ ap (map (fetch_at chart)) (are ∙ c.as_slice-2.ensures.value) ∙ c.in_ok-entries.ensures.entries)
    c.with_labels.ensures.entries

pub returns-clause-within : goal.returns-clause-within
returns-clause-within c =
    let chart = c.args.chart.now in
    IfOk-weaker c.with_labels.result _ _
    (λ lines are. all_entries (λ (l : Labelled). l.entry) (IsEntry chart) lines.items
    (subst (λ (es : List Entry). All (IsEntry chart) es) (sym (are ∙ c.as_slice-2.ensures.value)) c.in_ok-entries.ensures.within))
    c.with_labels.ensures.entries

pub returns-clause-labels : goal.returns-clause-labels
returns-clause-labels c =
    let asked = c.args.asked.now in
    let accepted = asked.job.now in
    let job = accepted.design.job in
    let net = c.in_ok-net.net in
    let fit = rows_given job accepted.sections.inputs c.job-kept.ensures.sound.names accepted.unbroken accepted.inputs in
    let agree = agrees job net c.job-kept.ensures.sound.names accepted.unbroken c.in_ok-net.ensures.shows in
    let are = subst (λ (l : List Taken). AreColumns job (net_rows job net c.args.end) l) (sym c.as_slice.ensures.value) c.in_ok-columns.ensures in
    let same = given_are job net agree c.args.end c.as_slice.result.now fit are in
    IfOk-weaker c.with_labels.result _ _
    (λ lines all. subst (λ (given : Samples). All (λ (l : Labelled). l.label.items ≡ text_beside job asked.text.now asked.labels.now (listing_seen asked.listing.now)
    (label_values job given asked.labels.now (fetch_at c.args.chart.now l.entry))) lines.items)
    same all)
    c.with_labels.ensures.labels
