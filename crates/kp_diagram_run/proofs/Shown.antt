-- What the laws of diagrams say of a figure.
use Rattle.std.proofs.Common.{◌≡◌, ◌∙◌, ℕ, suc, ◌-◌, Bool, List, [], ◌∷◌, length, refl, ap, sym, subst, arith}
use Rattle.kp_ast.specs.declared.tree.Job.{Job}
use Rattle.kp_stage.specs.Start.{start_of}
use Rattle.kp_pipeline.specs.{Accepted.Accepted, Machine.Machine, Pipeline.Inputs, Pipeline.pipeline_start, Rows.Row, Rows.pipe}
use Rattle.kp_pipeline.proofs.Taken.{rows-length}
use Rattle.kp_diagram.specs.{Claims.numbers_from, Claims.stalls_of, Diagram.Filling, Diagram.Loss, Diagram.losses_after, Diagram.spent, Diagram.spent_from}
use Rattle.kp_diagram.proofs.{Adding.adds-up, Adding.retired-passed, Causes.causes, Causes.counted, Cells.holds-shown, Cells.reasons, Cells.shown-holds}
use Rattle.kp_diagram.proofs.Retired.{retired-in_order}
use Rattle.kp_machine.specs.Machine.{inputs_from, machine_of, start_hints, state_of}
use Rattle.kp_diagram_text.specs.Figures.{figure_from}
use Rattle.kp_diagram_run.specs.{FigureClaims.ShowsPipe, FigureClaims.ShowsRun, Figures.job_figure}

one-each : (last : ℕ) (ext : ℕ → ℕ → Bool) (T : ℕ) (loss : ℕ → Loss) (rows : List Row) → length (spent_from last ext T loss rows) ≡ length rows
one-each last ext T loss [] = refl
one-each last ext T loss (r ∷ rows) = ap suc (one-each last ext (suc T) (losses_after (ext T) r loss) rows)

module _ (m : Machine) (s : ℕ → ℕ → ℕ) (hints : ℕ → ℕ) (ins : List Inputs) (acc : Accepted m) where
  abbrev rows : List Row
  rows = (pipe m s hints ins).rows

  long : length rows ≡ length ins
  long = rows-length m (pipeline_start s hints) ins

  abbrev last : ℕ
  last = m.stages - 1

  top : suc last ≡ m.stages
  top = omega (arith, acc.some_stages)

  pub shows-pipe : (name : List ℕ) (names : List (List ℕ)) → ShowsPipe m s hints ins (figure_from name names m.stages (stalls_of ins) rows)
  shows-pipe name names = record {
    stages = refl;
    cycles = long;
    cells = shown-holds m acc s hints ins;
    all = holds-shown m acc s hints ins;
    marks = reasons m acc s hints ins;
    retired = retired-in_order m acc (stalls_of ins) s hints ins last top
        ∙ ap (numbers_from 0) (sym (retired-passed last (stalls_of ins) 0 (λ k. Filling) rows));
    leaving = retired-passed last (stalls_of ins) 0 (λ k. Filling) rows;
    total = adds-up last (stalls_of ins) 0 (λ k. Filling) rows;
    spent = spent last (stalls_of ins) rows;
    many = one-each last (stalls_of ins) 0 (λ k. Filling) rows;
    causes = λ T b. causes m acc s hints ins last T top (omega (arith, b, long));
    counted = counted last (stalls_of ins) 0 (λ k. Filling) rows;
  }

stages-of : (job : Job) → (machine_of job).stages ≡ job.stages.value
unfolding machine_of
stages-of job = refl

pub shows-run : (job : Job) → Accepted (machine_of job) → (names : List (List ℕ)) (n : ℕ) → ShowsRun job n (job_figure names n job)
shows-run job acc names n =
    let m = machine_of job in
    let s = state_of job (start_of job) in
    let ins = inputs_from job 0 n in
    subst (λ (k : ℕ). ShowsPipe m s (start_hints job) ins (figure_from job.name.name names k (stalls_of ins) (pipe m s (start_hints job) ins).rows))
    (stages-of job) (shows-pipe m s (start_hints job) ins acc job.name.name names)
