-- The text of a run that agrees with the sequential machine is that of `sim`.
use Rattle.std.proofs.Common.{◌∙◌, ◌≡◌, ℕ, ◌≤◌, List, ◌++◌, length, None, Some, ap, arith}
use Rattle.kp_ast.specs.declared.tree.Job.{Job}
use Rattle.kp_pipeline.specs.{Pipeline.Inputs, Rows.Row}
use Rattle.kp_machine.specs.{Machine.inputs_from, Machine.pipe_of, Words.HasWord}
use Rattle.kp_net.specs.Netlist.{Net}
use Rattle.kp_sched.specs.{Lines.row_lines, Runs.passes, Runs.due_value}
use Rattle.kp_run.specs.Cycles.{own_trace}
use Rattle.kp_equiv.specs.Showing.{ShowsButName}
use Rattle.kp_frontend.specs.Judging.{broken_in}
use Rattle.kp_report.{specs.States.State, specs.Runs.count_line, specs.Runs.run_text, specs.Runs.sim_text, proofs.Alike.lines_alike, proofs.Sims.rows_many}
use Rattle.kp_tool.{specs.Watched.own_text, proofs.Agreeing.shown_agrees, proofs.Agreeing.agrees_if_shown}

pub run_text_alike : (job : Job) (rows : List Row) (s u : State) → ((t a : ℕ) → HasWord job t a → s t a ≡ u t a) → run_text job rows s ≡ run_text job rows u
unfolding run_text
run_text_alike job rows s u same =
    ap (λ (lines : List ℕ). row_lines 0 rows ++ (count_line job.stages.value rows ++ lines))
    (lines_alike job (λ t. Some (passes job rows (length rows) t)) s u same)

-- rows of the pipeline, with values that are those of the sequential machine
run_text_is : (job : Job) (ins : List Inputs) (rows piped : List Row) (s : State) (n : ℕ) → rows ≡ piped → length piped ≡ n
    → ((t a : ℕ) → n ≤ length rows → HasWord job t a → s t a ≡ due_value job ins rows n t a)
    → run_text job rows s ≡ run_text job piped (due_value job ins piped n)
run_text_is job ins rows piped s n same many values =
    let count : length rows ≡ length piped = ap (λ (l : List Row). length l) same in
    run_text_alike job rows s (due_value job ins rows n) (λ t a there. values t a (omega (arith, count, many)) there)
    ∙ ap (λ (l : List Row). run_text job l (due_value job ins l n)) same

pub own_is_sim : (job : Job) → broken_in job ≡ None → (net : Net) (n : ℕ) → ShowsButName net job → own_text n job net ≡ sim_text n job
unfolding sim_text
own_is_sim job none net n shows =
    run_text_is job (inputs_from job 0 n) (own_trace job net n).rows (pipe_of job (inputs_from job 0 n)).rows ((own_trace job net n).visible n) n
    (shown_agrees job none net n shows).rows (rows_many job n)
    (λ t a within there. agrees_if_shown job none net n shows n t a within there)
