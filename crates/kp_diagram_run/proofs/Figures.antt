-- The figure of a chart of a run is that of the job.
use Rattle.std.proofs.Common.{◌≡◌, ◌∙◌, ℕ, ◌+◌, ◌-◌, ◌<◌, Bool, true, List, length, get_or, ap, ap₂, arith}
use Rattle.std.proofs.Math.Path.{fun_ext}
use Rattle.kp_base.specs.declared.row.Row as masks
use Rattle.kp_ast.specs.declared.tree.Job.{Job}
use Rattle.kp_pipeline.specs.Rows.{Row}
use Rattle.kp_diagram.specs.{Diagram.Account, Diagram.Fetch, Diagram.Filling, Claims.stalls_of}
use Rattle.kp_machine.specs.Machine.{inputs_from}
use Rattle.kp_sched.specs.Rows.{bit_of, rows_seen}
use Rattle.kp_sched.proofs.Counting.{seen_length}
use Rattle.kp_implements.specs.Traces.{inputs_seen}
use Rattle.kp_run.specs.Cycles.{inputs_to}
use Rattle.kp_diagram_text.specs.Figures.{figure_from}
use Rattle.kp_diagram_run.specs.Figures.{IsRunOf, job_figure}
use Rattle.kp_diagram_run.proofs.{Alike.SameFrom, Alike.account-same, Alike.fetches-same, Words.words-seen}

pub from-zero : (e f : ℕ → ℕ → Bool) (count : ℕ) → ((T : ℕ) → T < count → e T ≡ f T) → SameFrom e f 0 count
from-zero e f count h T b = let z : 0 + T ≡ T = omega arith in rw z (h T b)

figure-same : (name : List ℕ) (names : List (List ℕ)) (n : ℕ) (e f : ℕ → ℕ → Bool) (rows : List Row) → ((T : ℕ) → T < length rows → e T ≡ f T)
    → figure_from name names n e rows ≡ figure_from name names n f rows
figure-same name names n e f rows h =
    ap₂ (λ (fetches : List Fetch) (account : Account). record {
      name = name;
      names = names;
      stages = n;
      cycles = length rows;
      fetches = fetches;
      account = account;
    })
    (fetches-same e f n 0 (λ k. 0) true rows (from-zero e f (length rows) h)) (account-same e f (n - 1) 0 (λ k. Filling) rows (from-zero e f (length rows) h))

abbrev pub ext_in : List ℕ → ℕ → ℕ → Bool
ext_in words T k = bit_of (get_or words T 0) k

figure-is : (job : Job) (n : ℕ) (name : List ℕ) (names : List (List ℕ)) (stages : ℕ) (rows : List masks.Row) (words : List ℕ)
    → inputs_seen job (inputs_to job n) ≡ inputs_from job 0 n → IsRunOf job n rows words
    → name ≡ job.name.name → stages ≡ job.stages.value
    → figure_from name names stages (ext_in words) (rows_seen stages rows) ≡ job_figure names n job
figure-is job n name names stages rows words seen run named same =
    ap₂ (λ (x : List ℕ) (m : ℕ). figure_from x names m (ext_in words) (rows_seen m rows)) named same
    ∙ figure-same job.name.name names job.stages.value (ext_in words) (stalls_of (inputs_from job 0 n)) (rows_seen job.stages.value rows)
    (λ T b. fun_ext (λ k. ap (λ (w : ℕ). bit_of w k) (run.words T (short T b)) ∙ words-seen job n T k seen (short T b)))
    ∙ ap (figure_from job.name.name names job.stages.value (stalls_of (inputs_from job 0 n))) run.rows
  where
    short : (T : ℕ) → T < length (rows_seen job.stages.value rows) → T < n
    short T b = omega (arith, b, seen_length job.stages.value rows, run.count)

pub figure-of : (job : Job) (n : ℕ) (name : List ℕ) (names : List (List ℕ)) (stages : ℕ) (rows given : List masks.Row) (words listed : List ℕ)
    → inputs_seen job (inputs_to job n) ≡ inputs_from job 0 n → IsRunOf job n given listed → rows ≡ given → words ≡ listed
    → name ≡ job.name.name → stages ≡ job.stages.value
    → figure_from name names stages (ext_in words) (rows_seen stages rows) ≡ job_figure names n job
figure-of job n name names stages rows given words listed seen run same_rows same_words named same =
    ap₂ (λ (rs : List masks.Row) (ws : List ℕ). figure_from name names stages (ext_in ws) (rows_seen stages rs)) same_rows same_words
    ∙ figure-is job n name names stages given listed seen run named same
