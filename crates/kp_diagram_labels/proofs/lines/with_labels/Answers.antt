use Rattle.std.proofs.Common.{◌≡◌, ◌∙◌, List, ap, length, refl, sym}
use Rattle.std.proofs.lemmas.{List.get_or_default, List.Elements.All-nil, List.Elements.All-push}
use Rattle.kp_bits.specs.Word.{Word}
use Rattle.kp_run.proofs.Given.{as_feeds}
use Rattle.kp_diagram_text.specs.{Labelled.fetch_at, declared.labelled.Labelled.Labelled}
use Rattle.kp_diagram_labels.specs.inner.Runs.{given}
use Rattle.kp_listing.specs.Seen.{listing_seen}
use Rattle.kp_diagram_labels.{specs.Texts.label_values, specs.Texts.text_beside, proofs.Texts.entries_more}
use Rattle.kp_diagram_labels.proofs.lines.with_labels.Goals as goal

pub loop-entry-init : goal.loop-entry-init
loop-entry-init c =
    let inputs = c.args.asked.now.job.now.sections.inputs in
    record {
      entries = rw c.new-lines.ensures.items refl;
      labels = rw c.new-lines.ensures.items (All-nil _);
      room = rw c.as_mut_slice-room.ensures.value (ap (λ (l : List Word). length l) c.in_ok-samples.ensures ∙ as_feeds inputs 0 ∙ sym c.requires.columns);
      run = c.in_ok-trace.ensures.run (given c.args.columns.now);
    }

pub loop-entry-preserved : goal.loop-entry-preserved
loop-entry-preserved c =
    let asked = c.args.asked.now in
    let job = asked.job.now.design.job in
    let entries = c.args.entries.now in
    let i = c.loop-entry.entry-index in
    let kept = c.loop-entry.invariant in
    let items = c.loop-entry.lines.items in
    let now = c.in_ok-label.ensures in
    record {
      entries = entries_more (λ (x : Labelled). x.entry) items _ _ entries i _ c.loop-entry-test.true (get_or_default entries i _ _ c.loop-entry-test.true) refl c.in_ok-push.ensures.items kept.entries;
      labels = rw c.in_ok-push.ensures.items (All-push (λ (x : Labelled). x.label.items ≡ text_beside job asked.text.now asked.labels.now (listing_seen asked.listing.now)
          (label_values job (given c.args.columns.now) asked.labels.now (fetch_at c.args.chart.now x.entry))) items _ kept.labels now.label);
      room = now.room ∙ kept.room;
      run = now.run;
    }
