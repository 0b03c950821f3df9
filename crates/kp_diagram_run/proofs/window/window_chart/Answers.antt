use Rattle.std.proofs.Common.{◌≡◌, ◌∙◌, ℕ, ◌<◌, ◌≤◌, List, All, length, ap, sym, subst, arith}
use Rattle.std.specs.Prelude.{map, string_bytes}
use Rattle.kp_base.specs.declared.row.Row.{Row}
use Rattle.kp_ast.specs.declared.tree.Job.{Job}
use Rattle.kp_run.proofs.Machines.{stages_fit}
use Rattle.kp_diagram_text.specs.declared.{account.Loss.Loss, window.Placed.Placed}
use Rattle.kp_diagram_run.proofs.Windowed.{drawn, figure-is}
use Rattle.kp_diagram_run.proofs.window.window_chart.Goals as goal

pub overflow_cast-stages : goal.overflow_cast-stages
overflow_cast-stages c =
    let few : c.job-tree.result.now.stages.value ≤ 12 =
    rw c.job-tree.ensures.job (stages_fit c.args.job.now.design.job c.job-tree.ensures.sound.stages).1 in
    omega (arith, few)

pub returns-clause-drawable : goal.returns-clause-drawable
returns-clause-drawable c = λ from n is few named.
    let fit = stages_fit c.args.job.now.design.job c.job-tree.ensures.sound.stages in
    let count : length c.as_slice-rows.result.now ≡ n = ap (λ (rs : List Row). length rs) c.as_slice-rows.ensures.value ∙ is.count in
    let many : length c.as_slice-words.result.now ≡ n = ap (λ (ws : List ℕ). length ws) c.as_slice-words.ensures.value ∙ is.many in
    record {
      some = rw c.job-tree.ensures.job fit.0;
      few = rw c.job-tree.ensures.job fit.1;
      words = many ∙ sym count;
      cycles = omega (arith, count, few);
      names = rw c.job-tree.ensures.job named;
    }

pub returns-clause-window : goal.returns-clause-window
returns-clause-window c = λ from n w is some early carried.
    let stages = ap (λ (j : Job). j.stages.value) c.job-tree.ensures.job in
    let count : length c.as_slice-rows.result.now ≡ n = ap (λ (rs : List Row). length rs) c.as_slice-rows.ensures.value ∙ is.count in
    record {
      some = omega (arith, count, some);
      early = omega (arith, carried.from, early);
      numbers = ap (λ (ns : List ℕ). length ns) carried.numbers ∙ is.numbered ∙ sym count;
      within = rw stages (subst (λ (ps : List Placed). All (λ (p : Placed). p.stage < c.args.job.now.design.job.stages.value) ps) (sym carried.flight) is.within);
      losses = ap (λ (ls : List Loss). length ls) carried.losses ∙ is.twelve;
    }

pub returns-clause-figure : goal.returns-clause-figure
returns-clause-figure c = λ from n w is some carried.
    let job = c.args.job.now.design.job in
    let names = map string_bytes c.args.names.now in
    let name = c.bytes.ensures.bytes ∙ ap (λ (j : Job). j.name.name) c.job-tree.ensures.job in
    let stages = ap (λ (j : Job). j.stages.value) c.job-tree.ensures.job in
    let fit = stages_fit job c.job-tree.ensures.sound.stages in
    (λ i. drawn job from n c.args.run.now is c.a_job_gives_its_own_inputs.ensures.seen (name i) names (stages i) (c.as_slice-rows.ensures.value i) (c.as_slice-words.ensures.value i) (carried.numbers i)
    (carried.flight i) (carried.losses i))
    ∙ figure-is job from n c.args.run.now is c.a_job_gives_its_own_inputs.ensures.seen names (omega (arith, fit.0)) some
