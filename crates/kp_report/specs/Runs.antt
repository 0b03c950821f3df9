-- The text of a run: its rows, how many instructions have reached each stage, and the state after them.
use Rattle.std.specs.Prelude.{ℕ, zero, suc, ◌+◌, List, [], ◌++◌, length, codes, decimal, Some}
use Rattle.kp_ast.specs.declared.tree.Job.{Job}
use Rattle.kp_pipeline.specs.Rows.{Row, counts}
use Rattle.kp_machine.specs.Machine.{pipe_of, inputs_from}
use Rattle.kp_sched.specs.{Lines.row_lines, Runs.passes, Runs.due_value}
use Rattle.kp_report.specs.States.{State, state_lines}

-- ` 3 2 1`: the counts of n stages, from stage k on
abbrev pub number_behind : ℕ → List ℕ
number_behind count = codes " " ++ decimal count

abbrev pub counts_from : (ℕ → ℕ) → ℕ → ℕ → List ℕ
counts_from count zero k = []
counts_from count (suc n) k = number_behind (count k) ++ counts_from count n (k + 1)

-- the number of the instruction that is in stage k of n after these rows, or that it accepts next
abbrev pub counts_behind : ℕ → List Row → ℕ → ℕ
counts_behind n rows k = counts n rows (length rows) k

abbrev pub numbers_behind : ℕ → List Row → List ℕ
numbers_behind n rows = counts_from (counts_behind n rows) n 0 ++ codes "\n"

unfoldable pub count_word : List ℕ
count_word = codes "count"

-- `count 3 2 1`
abbrev pub count_line : ℕ → List Row → List ℕ
count_line n rows = count_word ++ numbers_behind n rows

-- The rows, the counts after them, and the values of the targets, each with the number of instructions that its write stage has completed.
unfoldable pub run_text : Job → List Row → State → List ℕ
run_text job rows state =
    row_lines 0 rows
    ++ (count_line job.stages.value rows ++ state_lines 0 (λ t. Some (passes job rows (length rows) t)) state job.decls)

-- SIM TEXT: the rows of the pipelined machine over n cycles of the job's own stall words and samples, and the values of the sequential machine after
-- as many instructions as are completed in these rows.
unfoldable pub sim_text : ℕ → Job → List ℕ
sim_text n job =
    let ins = inputs_from job 0 n in
    let rows = (pipe_of job ins).rows in
    run_text job rows (due_value job ins rows n)
