use Rattle.std.proofs.Common.{◌≡◌, ◌++◌, drop}
use Rattle.kp_image.specs.Feeds.{row_in}
use Rattle.kp_sched.specs.Rows.{rows_seen}
use Rattle.kp_run.specs.Columns.{words_taken}
use Rattle.kp_run.proofs.columns.column_for.Given as goal

abbrev pub invariant-loop-cycle : goal.invariant-loop-cycle
invariant-loop-cycle l =
    l.words.items ++ words_taken (row_in l.inputs) l.x l.k l.cycle (rows_seen l.n (drop l.cycle l.rows))
    ≡ words_taken (row_in l.inputs) l.x l.k 0 (rows_seen l.n l.rows)
