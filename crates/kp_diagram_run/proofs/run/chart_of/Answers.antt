use Rattle.std.proofs.Common.{◌≡◌, ◌∙◌, ◌≤◌, ℕ, List, length, ap, ap₂, sym, arith}
use Rattle.std.specs.Prelude.{map, string_bytes}
use Rattle.kp_base.specs.declared.row.Row.{Row}
use Rattle.kp_ast.specs.declared.tree.Job.{Job}
use Rattle.kp_sched.specs.Rows.{rows_seen}
use Rattle.kp_run.proofs.Machines.{stages_fit}
use Rattle.kp_diagram_run.proofs.Figures.{figure-of}
use Rattle.kp_diagram_run.proofs.run.chart_of.Goals as goal

pub overflow_cast-stages : goal.overflow_cast-stages
overflow_cast-stages c =
    let few : c.job-tree.result.now.stages.value ≤ 12 =
    rw c.job-tree.ensures.job (stages_fit c.args.job.now.design.job c.job-tree.ensures.sound.stages).1 in
    omega (arith, few)

pub returns-clause-figure : goal.returns-clause-figure
returns-clause-figure c = λ n run.
    figure-of c.args.job.now.design.job n _ (map string_bytes c.args.names.now) _ _ _ _ _ (c.a_job_gives_its_own_inputs.ensures.seen n) run
    c.as_slice-rows.ensures.value c.as_slice-words.ensures.value
    (c.bytes.ensures.bytes ∙ ap (λ (j : Job). j.name.name) c.job-tree.ensures.job)
    (ap (λ (j : Job). j.stages.value) c.job-tree.ensures.job)

pub returns-clause-rows : goal.returns-clause-rows
returns-clause-rows c = λ n run.
    ap₂ (λ (stages : ℕ) (rows : List Row). rows_seen stages rows) (ap (λ (j : Job). j.stages.value) c.job-tree.ensures.job) c.as_slice-rows.ensures.value ∙ run.rows

pub returns-clause-drawable : goal.returns-clause-drawable
returns-clause-drawable c = λ n run few named.
    let fit = stages_fit c.args.job.now.design.job c.job-tree.ensures.sound.stages in
    let count : length c.as_slice-rows.result.now ≡ n = ap (λ (rs : List Row). length rs) c.as_slice-rows.ensures.value ∙ run.count in
    let many : length c.as_slice-words.result.now ≡ n = ap (λ (ws : List ℕ). length ws) c.as_slice-words.ensures.value ∙ run.many in
    record {
      some = rw c.job-tree.ensures.job fit.0;
      few = rw c.job-tree.ensures.job fit.1;
      words = many ∙ sym count;
      cycles = omega (arith, count, few);
      names = rw c.job-tree.ensures.job named;
    }
