use Rattle.std.proofs.Common.{rules, List, ℕ, None, arith, refl, subst}
use Rattle.kp_diagram_text.specs.{Text.window_text, Windows.window_figure, declared.window.Window.Window}
use Rattle.kp_view.specs.{Due.Says, Ends.Ends}
use Rattle.kp_view.proofs.window.window.Goals as goal

pub write_window-end-requires-clause-drawable : goal.write_window-end-requires-clause-drawable
write_window-end-requires-clause-drawable g c =
    let later = c.args.later.now in
    c.window_chart.ensures.drawable later.from later.run.count c.in_ok-ran.ensures (omega (arith, later.run.few)) c.requires

pub write_window-end-requires-clause-window : goal.write_window-end-requires-clause-window
write_window-end-requires-clause-window g c =
    let later = c.args.later.now in
    c.window_chart.ensures.window later.from later.run.count _ c.in_ok-ran.ensures later.some later.early
    (record { from = c.from-from.ensures; numbers = c.as_slice-numbers.ensures.value; flight = c.as_slice-flight.ensures.value; losses = refl })

pub returns-in_err-end : goal.returns-in_err-end
returns-in_err-end g c =
    let later = c.args.later.now in
    let window : Window = record { from = c.from-from.result; numbers = c.as_slice-numbers.result; flight = c.as_slice-flight.result; losses = c.in_ok-ran.ran.losses } in
    let figure = c.window_chart.ensures.figure later.from later.run.count window c.in_ok-ran.ensures later.some
    (record { from = c.from-from.ensures; numbers = c.as_slice-numbers.ensures.value; flight = c.as_slice-flight.ensures.value; losses = refl }) in
    subst (λ (t : List ℕ). Ends g.K.Sink.held g.K.Sink.faults ⊥ (Says 0 t) None c.args.out.now c.write_window-end.new.sink c.from_residual-in_err-end.result)
    (λ i. window_text (c.from-from.ensures i) (figure i)) (search rules)

pub returns : goal.returns
returns g c =
    let later = c.args.later.now in
    let window : Window = record { from = c.from-from.result; numbers = c.as_slice-numbers.result; flight = c.as_slice-flight.result; losses = c.in_ok-ran.ran.losses } in
    let figure = c.window_chart.ensures.figure later.from later.run.count window c.in_ok-ran.ensures later.some
    (record { from = c.from-from.ensures; numbers = c.as_slice-numbers.ensures.value; flight = c.as_slice-flight.ensures.value; losses = refl }) in
    (window_text c.from-from.result (window_figure c.window_chart.result window), (refl, (λ i. window_text (c.from-from.ensures i) (figure i))), c.in_ok-end.ensures.text)
