use Rattle.std.proofs.Common.{◌≡◌, ℕ, ◌<◌, ◌≤◌, All, get_or, length, map, take}
use Rattle.kp_sched.specs.Rows.{row_seen}
use Rattle.kp_diagram.specs.Flights.{moved}
use Rattle.kp_diagram_text.specs.{Windows.placed_seen, declared.window.Placed.Placed}
use Rattle.kp_diagram_run.specs.inner.Walks.{no_placed}
use Rattle.kp_diagram_run.proofs.window.move_on.Given as goal

abbrev pub invariant-loop-i : goal.invariant-loop-i
invariant-loop-i l = record {
  few : l.kept ≤ l.i;
  many : length l.flight.items ≡ length l.initial.flight.items;
  front : map placed_seen (take l.kept l.flight.items) ≡ moved l.stages (row_seen l.stages l.row) (map placed_seen (take l.i l.initial.flight.items));
  within : All (λ (p : Placed). p.stage < l.stages) l.flight.items;
  rest : (j : ℕ) → l.i ≤ j → get_or l.flight.items j no_placed ≡ get_or l.initial.flight.items j no_placed;
}
