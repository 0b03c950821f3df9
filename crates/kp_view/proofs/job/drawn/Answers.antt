use Rattle.std.proofs.Common.{◌≡◌, ◌+◌, ℕ, List, None, Ok, All, ap, map, string_bytes, subst}
use Rattle.kp_diagram_run.specs.Windows.{job_window}
use Rattle.kp_diagram_text.specs.Labelled.{labelled_text}
use Rattle.kp_diagram_labels.specs.{Labels.IsLabel, Labels.labels_of, Texts.heading, Texts.label_text}
use Rattle.kp_listing.specs.Listings.{entries_of}
use Rattle.kp_view_words.specs.declared.task.Order as code
use Rattle.kp_machine.specs.Machine.{inputs_from, pipe_of}
use Rattle.kp_view_words.specs.{Asked.beside_seen, Asked.cycles_seen, Asked.order_seen, Asked.run_seen, Words.diagram, Words.window, Words.labelled, Words.label_for, Words.svg, Words.page, Words.paths, Words.paths_svg, Words.stalls, Words.depth}
use Rattle.kp_view.{specs.Due.IsText, specs.Due.Says, proofs.Ends.drawn_by, proofs.Ends.weaker}
use Rattle.kp_view.proofs.job.drawn.Goals as goal

pub returns-in-Diagram : goal.returns-in-Diagram
returns-in-Diagram g c =
    let run = run_seen c.in-Diagram.run' in
    λ file. drawn_by g.K.Sink.held g.K.Sink.faults file (order_seen c.args.order.now) (diagram run) c.args.input.now c.args.job.now.design.job (ap order_seen c.in-Diagram.is)
    (c.a_figure_shows_the_run.ensures run.names run.count) _ _ _ c.diagram.ensures

pub returns-in-Window : goal.returns-in-Window
returns-in-Window g c = λ file.
    let run = run_seen c.in-Window.later.run in
    let from = c.in-Window.later.from in
    drawn_by g.K.Sink.held g.K.Sink.faults file (order_seen c.args.order.now) (window from run) c.args.input.now c.args.job.now.design.job (ap order_seen c.in-Window.is)
    (c.a_figure_shows_the_run.ensures run.names (from + run.count)) _ _ _ c.window.ensures

pub labelled-requires-clause-labels : goal.labelled-requires-clause-labels
labelled-requires-clause-labels g c =
    subst (λ (o : code.Order). All (IsLabel c.args.job.now.design.job (label_for (order_seen o))) c.args.labels.now) c.in-Labelled.is c.requires.fit

pub returns-in-Labelled : goal.returns-in-Labelled
returns-in-Labelled g c = λ file.
    let shown = c.in-Labelled.shown in
    let run = run_seen shown.later.run in
    let from = shown.later.from in
    let job = c.args.job.now.design.job in
    let beside = beside_seen shown in
    let label = beside.label in
    let entries = entries_of beside.listing in
    let labels = c.args.labels.now in
    let are : labels_of job label ≡ Ok labels = subst (λ (o : code.Order). labels_of job (label_for (order_seen o)) ≡ Ok labels) c.in-Labelled.is c.requires.labels in
    let text : List ℕ = labelled_text (heading job label labels entries) (label_text job label labels entries (from + run.count)) from (job_window run.names from run.count job) in
    drawn_by g.K.Sink.held g.K.Sink.faults file (order_seen c.args.order.now) (labelled from run beside) c.args.input.now job (ap order_seen c.in-Labelled.is)
    (c.a_figure_shows_the_run.ensures run.names (from + run.count)) _ _ _
    (weaker g.K.Sink.held g.K.Sink.faults None ⊥ ⊥ (Says 0 text) (λ s t. (s ≡ 0) × IsText (labelled from run beside) c.args.input.now job t) (λ u. u)
    (λ s t due. (due.0, (labels, are, due.1))) _ _ _ c.labelled.ensures)

pub returns-in-Svg : goal.returns-in-Svg
returns-in-Svg g c =
    let run = run_seen c.in-Svg.run' in
    λ file. drawn_by g.K.Sink.held g.K.Sink.faults file (order_seen c.args.order.now) (svg run) c.args.input.now c.args.job.now.design.job (ap order_seen c.in-Svg.is)
    (c.a_figure_shows_the_run.ensures run.names run.count) _ _ _ c.svg.ensures

pub returns-in-Page : goal.returns-in-Page
returns-in-Page g c =
    let job = c.args.job.now.design.job in
    let run = run_seen c.in-Page.run' in
    let states = c.listed_words_give_the_states.ensures (pipe_of job (inputs_from job 0 run.count)).visible in
    λ file. drawn_by g.K.Sink.held g.K.Sink.faults file (order_seen c.args.order.now) (page run) c.args.input.now job (ap order_seen c.in-Page.is)
    (c.a_figure_shows_the_run.ensures run.names run.count, c.the_cells_are_the_paths.ensures job, states) _ _ _ c.page.ensures

pub returns-in-Paths : goal.returns-in-Paths
returns-in-Paths g c =
    let job = c.args.job.now.design.job in
    λ file. drawn_by g.K.Sink.held g.K.Sink.faults file (order_seen c.args.order.now) (paths (map string_bytes c.in-Paths.names.now)) c.args.input.now job (ap order_seen c.in-Paths.is)
    (c.the_cells_are_the_paths.ensures job) _ _ _ c.paths.ensures

pub returns-in-PathsSvg : goal.returns-in-PathsSvg
returns-in-PathsSvg g c =
    let job = c.args.job.now.design.job in
    λ file. drawn_by g.K.Sink.held g.K.Sink.faults file (order_seen c.args.order.now) (paths_svg (map string_bytes c.in-PathsSvg.names.now)) c.args.input.now job (ap order_seen c.in-PathsSvg.is)
    (c.the_cells_are_the_paths.ensures job, c.the_arrows_are_the_cells.ensures job) _ _ _ c.paths_svg.ensures

pub returns-in-Stalls : goal.returns-in-Stalls
returns-in-Stalls g c =
    let run = cycles_seen c.in-Stalls.cycles in
    λ file. drawn_by g.K.Sink.held g.K.Sink.faults file (order_seen c.args.order.now) (stalls run) c.args.input.now c.args.job.now.design.job (ap order_seen c.in-Stalls.is)
    (c.the_lines_show_causes.ensures run.count) _ _ _ c.stalls.ensures

pub returns-in-Depth : goal.returns-in-Depth
returns-in-Depth g c =
    λ file. drawn_by g.K.Sink.held g.K.Sink.faults file (order_seen c.args.order.now) (depth c.in-Depth.memories) c.args.input.now c.args.job.now.design.job
    (ap order_seen c.in-Depth.is) tt _ _ _ c.depth.ensures
