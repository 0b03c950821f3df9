-- The steps of the loops that write a run.
use Rattle.std.proofs.Common.{◌≡◌, ◌∙◌, ℕ, suc, ◌+◌, ◌-◌, ◌<◌, List, ◌++◌, length, get_or, drop, ap, sym, Some, arith}
use Rattle.std.proofs.lemmas.List.{drop_more}
use Rattle.kp_base.specs.declared.row.Row.{Row}
use Rattle.kp_sched.{specs.Lines.row_line, specs.Lines.row_lines, specs.Rows.row_seen, specs.Rows.rows_seen, specs.Runs.passes, proofs.Counting.seen_length}
use Rattle.kp_ast.specs.declared.tree.Job.{Job}
use Rattle.kp_run.specs.Boards.{due_behind}
use Rattle.kp_report.specs.{Runs.number_behind, Runs.counts_from, Runs.count_line, Runs.run_text, States.state_lines, inner.Boards.board_text}

pub rows_next : (n : ℕ) (rows : List Row) (i : ℕ) (d : Row) → i < length rows
    → row_lines i (rows_seen n (drop i rows)) ≡ row_line i (row_seen n (get_or rows i d)) ++ row_lines (i + 1) (rows_seen n (drop (i + 1) rows))
rows_next n rows i d h = ap (λ (rs : List Row). row_lines i (rows_seen n rs)) (drop_more rows i d h)

pub counts_next : (count : ℕ → ℕ) (n k : ℕ) → k < n → counts_from count (n - k) k ≡ number_behind (count k) ++ counts_from count (n - (k + 1)) (k + 1)
counts_next count n k h = let one : n - k ≡ suc (n - (k + 1)) = omega arith in ap (λ (m : ℕ). counts_from count m k) one

-- what is written from a board is the text of its run
pub board_is_run : (n : ℕ) (job : Job) (rows : List Row) → n ≡ job.stages.value → board_text n job rows ≡ run_text job (rows_seen job.stages.value rows) (due_behind job rows)
unfolding run_text
board_is_run n job rows same =
    ap (λ (m : ℕ). board_text m job rows) same
    ∙ ap (λ (T : ℕ). row_lines 0 (rows_seen job.stages.value rows) ++ (count_line job.stages.value (rows_seen job.stages.value rows)
    ++ state_lines 0 (λ t. Some (passes job (rows_seen job.stages.value rows) T t)) (due_behind job rows) job.decls)) (sym (seen_length job.stages.value rows))
