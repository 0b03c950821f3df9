use Rattle.std.proofs.Common.{◌≡◌, ◌∙◌, ℕ, List, [], length, refl, ap, sym, subst}
use Rattle.std.proofs.lemmas.Result.{err_from_is_err_and}
use Rattle.kp_bits.specs.Word.{Word}
use Rattle.kp_cycle.specs.Steps.{Running}
use Rattle.kp_image.proofs.Given.{starts}
use Rattle.kp_run.proofs.Given.{as_feeds}
use Rattle.kp_implements.specs.Shows.{Shows}
use Rattle.kp_diagram_text.specs.Charts.{figure_of, rows_of}
use Rattle.kp_page.specs.{Runs.after_cycles, States.states_text, Page.page as page_text}
use Rattle.kp_paths.specs.Text.{paths_text}
use Rattle.kp_view.proofs.page.with_states.Goals as goal

pub synth-requires-clause-suits : goal.synth-requires-clause-suits
synth-requires-clause-suits g c = rw c.args.job.now.start (starts _ c.job-kept.ensures.sound.names c.args.job.now.unbroken)

pub open-requires : goal.open-requires
open-requires g c =
    let outputs = c.in_ok-net.ensures.shows.outputs in
    record { ext = outputs.few; full = outputs.full; ue = outputs.ue; back = outputs.back }

pub open-requires-2 : goal.open-requires-2
open-requires-2 g c =
    let outputs = c.in_ok-net.ensures.shows.outputs in
    record { ext = outputs.few; full = outputs.full; ue = outputs.ue; back = outputs.back }

pub write_page-end-requires-clause-shows : goal.write_page-end-requires-clause-shows
write_page-end-requires-clause-shows g c =
    subst (λ (s : Running). Shows s.net c.args.job.now.design.job) (sym c.in_ok-now.ensures) c.in_ok-net.ensures.shows

pub write_page-end-requires-clause-now : goal.write_page-end-requires-clause-now
write_page-end-requires-clause-now g c =
    subst (λ (s : Running). s ≡ after_cycles c.args.job.now.design.job s.net 0) (sym c.in_ok-now.ensures) refl

pub write_page-end-requires-clause-before : goal.write_page-end-requires-clause-before
write_page-end-requires-clause-before g c =
    c.in_ok-before.ensures ∙ ap (λ (s : Running). after_cycles c.args.job.now.design.job s.net 0) (sym c.in_ok-now.ensures)

pub write_page-end-requires-clause-room : goal.write_page-end-requires-clause-room
write_page-end-requires-clause-room g c =
    rw c.as_mut_slice-room.ensures.value (ap (λ (l : List Word). length l) c.in_ok-samples.ensures ∙ as_feeds c.args.job.now.sections.inputs 0)

pub returns-in_err-end : goal.returns-in_err-end
returns-in_err-end g c =
    let exit = err_from_is_err_and c.from_residual-in_err-end.result c.from_residual-in_err-end.ensures.1 in
    let due = c.in_err-end.ensures in
    let text : List ℕ =
    page_text (figure_of c.args.chart.now) (rows_of c.args.chart.now) c.args.input.now (paths_text [] c.args.paths.now)
    (states_text c.args.job.now.design.job c.args.count) in
    rw (exit.1, exit.2) (due.cause.failed, text, (refl, refl), due.text)
