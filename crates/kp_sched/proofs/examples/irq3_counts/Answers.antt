use Rattle.std.{proofs.Common.refl, specs.Fmt.digits}
use Rattle.kp_sched.specs.Lines.{row_line}
use Rattle.kp_sched.proofs.examples.irq3_counts.Goals as goal

pub returns-clause-lines : goal.returns-clause-lines
unfolding row_line digits
returns-clause-lines c = refl
