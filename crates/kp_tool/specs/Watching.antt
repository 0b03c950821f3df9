-- The outcome for a netlist that was run and compared.
use Rattle.std.specs.Prelude.{ℕ, List, Option, Some, None}
use Rattle.kp_sched.specs.Rows.{rows_seen}
use Rattle.kp_run.specs.{Boards.due_behind, declared.board.Board.Board, declared.difference.Difference.Difference}
use Rattle.kp_report.specs.{Runs.run_text, Differing.differing_text}

-- by the first difference from the sequential machine, if there is one
abbrev pub status_by : Option Difference → ℕ
status_by None = 0
status_by (Some d) = 7

-- the complete run, or its rows up to the difference and the line of the difference
abbrev pub text_by : Board → Option Difference → List ℕ
text_by board None =
    run_text board.design.now.job (rows_seen board.design.now.job.stages.value board.cycles.rows.items) (due_behind board.design.now.job board.cycles.rows.items)
text_by board (Some d) = differing_text board.cycles.monitor.stages board.design.now.job board.cycles.rows.items d
