-- The parts of the text of a window are the text.
use Rattle.std.proofs.Common.{◌≡◌, ◌∙◌, ℕ, ◌+◌, ◌-◌, Bool, false, List, ◌++◌, length, get_or, map, refl, ap, ap₂, sym, append_assoc}
use Rattle.std.specs.Prelude.{codes}
use Rattle.kp_diagram.specs.{Diagram.account_from, Flights.carried, Flights.entering}
use Rattle.kp_sched.proofs.Counting.{seen_length}
use Rattle.kp_diagram_text.specs.declared.{chart.Chart.Chart, window.Window.Window}
use Rattle.kp_diagram_text.specs.{Charts.ext_of, Charts.names_of, Charts.rows_of, Losses.losses_shown, Windows.placed_seen, Windows.window_figure}
use Rattle.kp_diagram_text.specs.Text.{account_text, column, cycle_numbers, legend, lines_text, window_text, window_title}
use Rattle.kp_diagram_text.proofs.Steps.{both_lines}

pub whole_window : (c : Chart) (w : Window) (width : ℕ) → width ≡ column (names_of c) c.stages (w.from + length c.rows.now)
    → (window_title c.name.now c.stages w.from (length c.rows.now) ++ (cycle_numbers width w.from (length c.rows.now) ++ codes "\n"))
    ++ ((lines_text width (names_of c) (carried c.stages (ext_of c) 0 (rows_of c) (map placed_seen w.flight.now))
    ++ lines_text width (names_of c) (entering c.stages (ext_of c) 0 (λ T. get_or w.numbers.now T 0) false (rows_of c)))
    ++ (legend ++ account_text (length c.rows.now) (account_from (c.stages - 1) (ext_of c) 0 (losses_shown w.losses) (rows_of c))))
    ≡ window_text w.from (window_figure c w)
unfolding window_text
whole_window c w width is =
    let long : length (rows_of c) ≡ length c.rows.now = seen_length c.stages c.rows.now in
    let flight = carried c.stages (ext_of c) 0 (rows_of c) (map placed_seen w.flight.now) in
    let later = entering c.stages (ext_of c) 0 (λ T. get_or w.numbers.now T 0) false (rows_of c) in
    let account = account_from (c.stages - 1) (ext_of c) 0 (losses_shown w.losses) (rows_of c) in
    let title : ℕ → List ℕ = λ count. window_title c.name.now c.stages w.from count in
    let numbers : ℕ → ℕ → List ℕ = λ v count. cycle_numbers v w.from count in
    let rest : ℕ → List ℕ = λ count. legend ++ account_text count account in
    append_assoc (title (length c.rows.now)) (numbers width (length c.rows.now) ++ codes "\n") _
    ∙ ap (λ (t : List ℕ). title (length c.rows.now) ++ t) (append_assoc (numbers width (length c.rows.now)) (codes "\n") _)
    ∙ ap (λ (t : List ℕ). title (length c.rows.now) ++ (numbers width (length c.rows.now) ++ (codes "\n" ++ (t ++ rest (length c.rows.now)))))
    (sym (both_lines c.stages (ext_of c) width (names_of c) flight later))
    ∙ ap₂ (λ (v count : ℕ). title count ++ (numbers v count ++ (codes "\n" ++ (lines_text v (names_of c) (flight ++ later) ++ rest count))))
    (is ∙ ap (λ (n : ℕ). column (names_of c) c.stages (w.from + n)) (sym long)) (sym long)
