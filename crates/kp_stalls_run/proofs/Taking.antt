-- The sample values that the instructions of a run take, as they are collected.
use Rattle.std.proofs.Common.{◌≡◌, ◌∙◌, ℕ, List, Bool, None, length, ap, sym}
use Rattle.kp_base.specs.declared.row.Row as masks
use Rattle.kp_base.specs.First.{first}
use Rattle.kp_ast.specs.declared.tree.Job.{Job}
use Rattle.kp_width.specs.Widths.{widths_of}
use Rattle.kp_image.specs.{Feeds.Fed, Feeds.row_in, Sections.sections_of}
use Rattle.kp_pipeline.specs.Rows.{taken}
use Rattle.kp_stage.specs.Start.{AreSamples, input}
use Rattle.kp_machine.specs.Machine.{inputs_from, machine_of, values_in}
use Rattle.kp_run.{specs.Columns.AreColumns, specs.Columns.Taken, specs.Columns.row_taken, proofs.Gathering.rows_fit_taken, proofs.Gathering.taken_is}
use Rattle.kp_run.proofs.{Given.rows_fed, Given.rows_given, Samples.many}
use Rattle.kp_sched.specs.Rows.{rows_seen}
use Rattle.kp_sites.specs.Sites.{sited}
use Rattle.kp_stalls.specs.{declared.cause.Line.Line, Occupants.report, Cycles.lines_from}
use Rattle.kp_stalls_run.specs.Runs.{settled}

module _ (job : Job) (feeds : List Fed) (names : first (widths_of job).asked ≡ None) (unbroken : first (sections_of job).asked ≡ None) (is : row_in feeds ≡ input job)
    (rows : List masks.Row) (columns : List Taken) (are : AreColumns job rows columns) where
  pub samples_fit : (i : ℕ) → AreSamples job.decls (row_taken columns i)
  samples_fit i = rows_fit_taken job rows columns (rows_given job feeds names unbroken is) are i

  pub room_fits : length (row_in feeds 0) ≡ length columns
  room_fits = many job.decls (row_in feeds 0) (rows_fed job feeds names unbroken is 0) ∙ sym are.count

  abbrev lines_with : (ℕ → ℕ → Bool) → (ℕ → ℕ → ℕ) → List Line
  lines_with ext given = lines_from (sited job) ext (settled job given) (report job given) 0 (λ k. 0) (rows_seen job.stages.value rows)

  pub lines_taken : (ext : ℕ → ℕ → Bool) → lines_with ext (λ i. values_in (row_taken columns i))
      ≡ lines_with ext (taken (machine_of job) (inputs_from job 0 (length (rows_seen job.stages.value rows))) (rows_seen job.stages.value rows))
  lines_taken ext = ap (lines_with ext) (taken_is job rows columns (rows_given job feeds names unbroken is) are)
