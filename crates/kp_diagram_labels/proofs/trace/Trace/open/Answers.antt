use Rattle.std.proofs.Common.{ℕ, Ok}
use Rattle.kp_image.proofs.Given.{starts}
use Rattle.kp_diagram_labels.proofs.Runs.{opened_run}
use Rattle.kp_diagram_labels.proofs.trace.Trace.open.Goals as goal

pub open-requires : goal.open-requires
open-requires c = record { suits = rw c.args.job.now.start (starts _ c.job-kept.ensures.sound.names c.args.job.now.unbroken) }

pub returns-clause-run : goal.returns-clause-run
returns-clause-run c =
    opened_run {E = ℕ} c.args.job.now.design.job c.args.job.now.sections.start (Ok c.in_ok-machine.machine) c.in_ok-machine.ensures.job c.in_ok-machine.ensures.state c.args.job.now.start
