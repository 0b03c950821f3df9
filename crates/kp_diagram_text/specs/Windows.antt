-- What a window is drawn from: a chart of its own cycles, and what the run carries to the first of them.
use Rattle.std.specs.Prelude.{◌≡◌, ℕ, ◌+◌, ◌-◌, ◌<◌, ◌≤◌, Bool, false, List, ◌++◌, All, length, get_or, map}
use Rattle.kp_diagram.specs.{Diagram.Fetch, Diagram.account_from, Flights.carried, Flights.entering}
use Rattle.kp_diagram.specs.Flights as diagram
use Rattle.kp_diagram_text.specs.declared.{chart.Chart.Chart, window.Placed.Placed, window.Window.Window}
use Rattle.kp_diagram_text.specs.{Charts.ext_of, Charts.names_of, Charts.rows_of, Figures.Figure, Losses.losses_shown}

abbrev pub placed_seen : Placed → diagram.Placed
placed_seen p = record { number = p.number; stage = p.stage }

-- the lines of the instructions in flight, and of those that enter later
abbrev pub window_lines : Chart → Window → List Fetch
window_lines c w =
    carried c.stages (ext_of c) 0 (rows_of c) (map placed_seen w.flight.now)
    ++ entering c.stages (ext_of c) 0 (λ T. get_or w.numbers.now T 0) false (rows_of c)

-- THE FIGURE of a window, with cycles counted from its first one.
abbrev pub window_figure : Chart → Window → Figure
window_figure c w = record {
  name = c.name.now;
  names = names_of c;
  stages = c.stages;
  cycles = length (rows_of c);
  fetches = window_lines c w;
  account = account_from (c.stages - 1) (ext_of c) 0 (losses_shown w.losses) (rows_of c);
}

-- it has some cycles, and numbers, places and losses for them
pub record IsWindow (c : Chart) (w : Window) : Type 0 where
  pub some : 1 ≤ length c.rows.now
  pub early : w.from ≤ 1000000000
  pub numbers : length w.numbers.now ≡ length c.rows.now
  pub within : All (λ (p : Placed). p.stage < c.stages) w.flight.now
  pub losses : length w.losses ≡ 12
