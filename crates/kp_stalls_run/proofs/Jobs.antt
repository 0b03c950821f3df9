-- The run of a job.
use Rattle.std.proofs.Common.{◌≡◌, ◌∙◌, ℕ, ◌+◌, ◌<◌, List, Bool, length, get_or, ap, sym, subst, arith}
use Rattle.std.proofs.Math.Path.{fun_ext}
use Rattle.kp_base.specs.declared.row.Row as masks
use Rattle.kp_ast.specs.declared.tree.Job.{Job}
use Rattle.kp_pipeline.specs.{Accepted.Accepted, Rows.Row, Rows.taken}
use Rattle.kp_diagram.specs.Claims.{stalls_of}
use Rattle.kp_stage.specs.Start.{start_of}
use Rattle.kp_machine.specs.Machine.{inputs_from, machine_of, start_hints, state_of}
use Rattle.kp_sched.specs.Rows.{bit_of, rows_seen}
use Rattle.kp_sched.proofs.Counting.{seen_length}
use Rattle.kp_implements.specs.Traces.{inputs_seen}
use Rattle.kp_run.specs.Cycles.{inputs_to}
use Rattle.kp_diagram_run.specs.Figures.{IsRunOf}
use Rattle.kp_diagram_run.proofs.Words.{words-seen}
use Rattle.kp_stalls_run.specs.{Runs.run_lines, Runs.settled, inner.Running.StaysClose}
use Rattle.kp_stalls_run.proofs.{Closeness.stays_close, Steps.lines_same}
use Rattle.kp_sites.specs.Sites.{sited}
use Rattle.kp_stalls.specs.{Occupants.report, Cycles.lines_from}

pub run_close : (job : Job) (n : ℕ) (rows : List masks.Row) (words : List ℕ) → Accepted (machine_of job) → IsRunOf job n rows words
    → StaysClose job.stages.value (rows_seen job.stages.value rows)
unfolding machine_of
run_close job n rows words acc run =
    subst (λ rs. StaysClose job.stages.value rs) (sym run.rows) (stays_close (machine_of job) acc (state_of job (start_of job)) (start_hints job) (inputs_from job 0 n))

abbrev ext_in : List ℕ → ℕ → ℕ → Bool
ext_in words T k = bit_of (get_or words T 0) k

abbrev taken_in : Job → List Row → ℕ → ℕ → ℕ
taken_in job seen = taken (machine_of job) (inputs_from job 0 (length seen)) seen

-- The lines of its rows are those of the job.
pub job_lines : (job : Job) (n : ℕ) (rows : List masks.Row) (words : List ℕ) → inputs_seen job (inputs_to job n) ≡ inputs_from job 0 n → IsRunOf job n rows words
    → lines_from (sited job) (ext_in words) (settled job (taken_in job (rows_seen job.stages.value rows))) (report job (taken_in job (rows_seen job.stages.value rows))) 0 (λ k. 0)
    (rows_seen job.stages.value rows) ≡ run_lines n job
job_lines job n rows words given run =
    let seen = rows_seen job.stages.value rows in
    let took = taken_in job seen in
    let ins = inputs_from job 0 n in
    let many : length seen ≡ n = (let a = seen_length job.stages.value rows in let b = run.count in omega (arith, a, b)) in
    lines_same (sited job) (ext_in words) (stalls_of ins) (settled job took) (report job took) 0 (λ k. 0) seen
    (λ T b.
    let z : 0 + T ≡ T = omega arith in
    let short : T < n = omega (arith, b, many) in
    rw z (fun_ext (λ k. ap (λ (w : ℕ). bit_of w k) (run.words T short) ∙ words-seen job n T k given short)))
    ∙ (λ i.
    lines_from (sited job) (stalls_of ins) (settled job (taken (machine_of job) (inputs_from job 0 (many i)) (run.rows i)))
    (report job (taken (machine_of job) (inputs_from job 0 (many i)) (run.rows i))) 0 (λ k. 0) (run.rows i))
