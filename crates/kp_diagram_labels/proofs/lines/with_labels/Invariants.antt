use Rattle.std.proofs.Common.{◌≡◌, All, length, map, take}
use Rattle.kp_diagram_text.specs.{Labelled.fetch_at, declared.labelled.Labelled.Labelled}
use Rattle.kp_diagram_labels.specs.inner.Runs.{HasRun, given}
use Rattle.kp_listing.specs.Seen.{listing_seen}
use Rattle.kp_diagram_labels.specs.Texts.{label_values, text_beside}
use Rattle.kp_diagram_labels.proofs.lines.with_labels.Given as goal

abbrev pub invariant-loop-entry : goal.invariant-loop-entry
invariant-loop-entry l = record {
  entries : map (λ (x : Labelled). x.entry) l.lines.items ≡ take l.entry-index l.entries;
  labels : All (λ (x : Labelled). x.label.items ≡ text_beside l.asked.job.now.design.job l.asked.text.now l.asked.labels.now (listing_seen l.asked.listing.now)
      (label_values l.asked.job.now.design.job (given l.columns) l.asked.labels.now (fetch_at l.chart x.entry))) l.lines.items;
  room : length l.room ≡ length l.columns;
  run : HasRun l.asked.job.now.design.job (given l.columns) l.trace.ran l.trace.machine;
}
