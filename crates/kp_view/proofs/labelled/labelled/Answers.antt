use Rattle.std.proofs.Common.{◌≡◌, ◌∙◌, ◌+◌, ℕ, List, All, ap, arith, refl, subst, sym}
use Rattle.std.proofs.lemmas.Result.{err_from_is_err_and}
use Rattle.kp_ast.specs.declared.tree.Job.{Job}
use Rattle.kp_diagram.specs.Diagram.{Fetch}
use Rattle.kp_diagram_text.specs.{Figures.Figure, Labelled.fetch_at, Labelled.labelled_text, Windows.window_figure, declared.labelled.Labelled.Labelled, declared.window.Window.Window}
use Rattle.kp_diagram_labels.specs.{Labels.IsLabel, Texts.heading, Texts.label_text}
use Rattle.kp_listing.specs.{Listings.entries_of, Seen.listing_seen}
use Rattle.kp_view.proofs.labelled.labelled.Goals as goal

pub heading_of-requires : goal.heading_of-requires
heading_of-requires g c = subst (λ (j : Job). All (IsLabel j c.args.shown.now.label.now) c.args.labels.now) (sym c.in_ok-layout.ensures) c.requires.labels

pub labelled_lines-requires-clause-layout : goal.labelled_lines-requires-clause-layout
labelled_lines-requires-clause-layout g c = c.in_ok-layout.ensures

pub labelled_lines-requires-clause-stages : goal.labelled_lines-requires-clause-stages
labelled_lines-requires-clause-stages g c =
    let later = c.args.shown.now.later in
    let window : Window = record { from = c.from-from.result; numbers = c.as_slice-numbers.result; flight = c.as_slice-flight.result; losses = c.in_ok-ran.ran.losses } in
    ap (λ (f : Figure). f.stages) (c.window_chart-chart.ensures.figure later.from later.run.count window c.in_ok-ran.ensures later.some
    (record { from = c.from-from.ensures; numbers = c.as_slice-numbers.ensures.value; flight = c.as_slice-flight.ensures.value; losses = refl }))

pub labelled_lines-requires-clause-drawable : goal.labelled_lines-requires-clause-drawable
labelled_lines-requires-clause-drawable g c =
    let later = c.args.shown.now.later in
    c.window_chart-chart.ensures.drawable later.from later.run.count c.in_ok-ran.ensures (omega (arith, later.run.few)) c.requires.names

pub labelled_lines-requires-clause-window : goal.labelled_lines-requires-clause-window
labelled_lines-requires-clause-window g c =
    let later = c.args.shown.now.later in
    c.window_chart-chart.ensures.window later.from later.run.count _ c.in_ok-ran.ensures later.some later.early
    (record { from = c.from-from.ensures; numbers = c.as_slice-numbers.ensures.value; flight = c.as_slice-flight.ensures.value; losses = refl })

pub write_labelled-end-requires-clause-drawable : goal.write_labelled-end-requires-clause-drawable
write_labelled-end-requires-clause-drawable g c =
    let later = c.args.shown.now.later in
    c.window_chart-chart.ensures.drawable later.from later.run.count c.in_ok-ran.ensures (omega (arith, later.run.few)) c.requires.names

pub write_labelled-end-requires-clause-window : goal.write_labelled-end-requires-clause-window
write_labelled-end-requires-clause-window g c =
    let later = c.args.shown.now.later in
    c.window_chart-chart.ensures.window later.from later.run.count _ c.in_ok-ran.ensures later.some later.early
    (record { from = c.from-from.ensures; numbers = c.as_slice-numbers.ensures.value; flight = c.as_slice-flight.ensures.value; losses = refl })

pub write_labelled-end-requires-clause-within : goal.write_labelled-end-requires-clause-within
write_labelled-end-requires-clause-within g c = rw c.as_slice-2.ensures.value c.in_ok-lines.ensures.within

pub write_labelled-end-requires-clause-lines : goal.write_labelled-end-requires-clause-lines
write_labelled-end-requires-clause-lines g c = rw c.as_slice-2.ensures.value c.in_ok-lines.ensures.lines

pub returns-in_err-end : goal.returns-in_err-end
returns-in_err-end g c =
    let job = c.args.job.now.design.job in
    let later = c.args.shown.now.later in
    let text = c.args.shown.now.label.now in
    let labels = c.args.labels.now in
    let chart = c.window_chart-chart.result in
    let window : Window = record { from = c.from-from.result; numbers = c.as_slice-numbers.result; flight = c.as_slice-flight.result; losses = c.in_ok-ran.ran.losses } in
    let figure = c.window_chart-chart.ensures.figure later.from later.run.count window c.in_ok-ran.ensures later.some
    (record { from = c.from-from.ensures; numbers = c.as_slice-numbers.ensures.value; flight = c.as_slice-flight.ensures.value; losses = refl }) in
    let entries = listing_seen c.in_ok-listing.listing in
    let listed : entries ≡ entries_of c.args.shown.now.listing.now = c.in_ok-listing.ensures in
    let label : Fetch → List ℕ = label_text job text labels entries (later.from + later.run.count) in
    let head : c.as_slice.result.now ≡ heading job text labels (entries_of c.args.shown.now.listing.now) =
    c.as_slice.ensures.value ∙ c.in_ok-heading.ensures ∙ ap (λ (j : Job). heading j text labels entries) c.in_ok-layout.ensures ∙ ap (heading job text labels) listed in
    let all : All (λ (l : Labelled). l.label.items ≡ label (fetch_at chart l.entry)) c.as_slice-2.result.now = rw c.as_slice-2.ensures.value c.in_ok-lines.ensures.labels in
    let exit = err_from_is_err_and c.from_residual-in_err-end.result c.from_residual-in_err-end.ensures.1 in
    let due = c.in_err-end.ensures in
    rw (exit.1, exit.2) (
      due.cause.failed,
      labelled_text c.as_slice.result.now label c.from-from.result (window_figure chart window),
      (refl, (λ i. labelled_text (head i) (label_text job text labels (listed i) (later.from + later.run.count)) (c.from-from.ensures i) (figure i))),
      due.text label all,
    )

pub returns : goal.returns
returns g c =
    let job = c.args.job.now.design.job in
    let later = c.args.shown.now.later in
    let text = c.args.shown.now.label.now in
    let labels = c.args.labels.now in
    let chart = c.window_chart-chart.result in
    let window : Window = record { from = c.from-from.result; numbers = c.as_slice-numbers.result; flight = c.as_slice-flight.result; losses = c.in_ok-ran.ran.losses } in
    let figure = c.window_chart-chart.ensures.figure later.from later.run.count window c.in_ok-ran.ensures later.some
    (record { from = c.from-from.ensures; numbers = c.as_slice-numbers.ensures.value; flight = c.as_slice-flight.ensures.value; losses = refl }) in
    let entries = listing_seen c.in_ok-listing.listing in
    let listed : entries ≡ entries_of c.args.shown.now.listing.now = c.in_ok-listing.ensures in
    let label : Fetch → List ℕ = label_text job text labels entries (later.from + later.run.count) in
    let head : c.as_slice.result.now ≡ heading job text labels (entries_of c.args.shown.now.listing.now) =
    c.as_slice.ensures.value ∙ c.in_ok-heading.ensures ∙ ap (λ (j : Job). heading j text labels entries) c.in_ok-layout.ensures ∙ ap (heading job text labels) listed in
    let all : All (λ (l : Labelled). l.label.items ≡ label (fetch_at chart l.entry)) c.as_slice-2.result.now = rw c.as_slice-2.ensures.value c.in_ok-lines.ensures.labels in (
      labelled_text c.as_slice.result.now label c.from-from.result (window_figure chart window),
      (refl, (λ i. labelled_text (head i) (label_text job text labels (listed i) (later.from + later.run.count)) (c.from-from.ensures i) (figure i))),
      c.in_ok-end.ensures.text label all,
    )
