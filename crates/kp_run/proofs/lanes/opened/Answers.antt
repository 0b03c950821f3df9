use Rattle.std.proofs.Common.{◌≡◌, IfOk, subst}
use Rattle.kp_stage.specs.declared.start.Start.{Start}
use Rattle.kp_image.proofs.Given.{starts}
use Rattle.kp_machine.specs.Machine.{state_of}
use Rattle.kp_seq.specs.Running.{state}
use Rattle.kp_run.proofs.lanes.opened.Goals as goal

pub open-requires : goal.open-requires
open-requires c = record { suits = rw c.args.job.now.start (starts _ c.job-kept.ensures.sound.names c.args.job.now.unbroken) }

pub returns-clause-state : goal.returns-clause-state
returns-clause-state c = subst (λ (s : Start). IfOk c.open.result (λ m. state m ≡ state_of c.args.job.now.design.job s)) c.args.job.now.start c.open.ensures.state
