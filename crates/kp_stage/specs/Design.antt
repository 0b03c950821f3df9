-- A job that violates no rule of names, widths and stages.
use Rattle.std.specs.Prelude.{◌≡◌, List, None}
use Rattle.kp_base.specs.First.{first}
use Rattle.kp_ast.specs.declared.{tree.Job.Job, widths.Entry.Entry}
use Rattle.kp_width.specs.Widths.{widths_of}
use Rattle.kp_stage.specs.{declared.counts.Summary.Summary, Stages.broken_of, Counts.summary_of}

-- a job and the widths of its names
pub record Plan : Type 0 where
  pub job : Job
  pub entries : List Entry

abbrev pub plan : Job → List Entry → Plan
plan job entries = record { job = job; entries = entries }

-- no rule of names and widths is violated, the widths are those of the job, and no rule of stages is violated
pub record IsSound (p : Plan) : Type 0 where
  pub names : first (widths_of p.job).asked ≡ None
  pub widths : p.entries ≡ (widths_of p.job).value
  pub stages : broken_of p.job ≡ None

-- and its numbers are stored with it
pub record IsKept (p : Plan) (summary : Summary) : Type 0 where
  pub sound : IsSound p
  pub numbers : summary ≡ summary_of p.job
