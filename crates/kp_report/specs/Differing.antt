-- The text of a run up to a difference, in terms of what is stored of both.
use Rattle.std.specs.Prelude.{ℕ, List, ◌++◌, take}
use Rattle.kp_base.specs.declared.row.Row.{Row}
use Rattle.kp_ast.specs.declared.tree.Job.{Job}
use Rattle.kp_sched.specs.{Lines.row_lines, Rows.rows_seen}
use Rattle.kp_machine.specs.Words.{target}
use Rattle.kp_report.specs.Texts.{differs_line}
use Rattle.kp_run.specs.declared.difference.Difference.{Difference}

abbrev pub line_of : Job → Difference → List ℕ
line_of job d = differs_line d.cycle (target job d.target) d.address d.found d.due

abbrev pub differing_text : ℕ → Job → List Row → Difference → List ℕ
differing_text n job rows d = row_lines 0 (rows_seen n (take d.cycle rows)) ++ line_of job d
