use Rattle.kp_view_explain.specs.Messages.{Grows}
use Rattle.kp_view_explain.proofs.of_job.write_others.Given as goal

abbrev pub invariant-loop-finding : goal.invariant-loop-finding
invariant-loop-finding l = Grows l.initial.out.items l.out.items
