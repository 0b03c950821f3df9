use Rattle.std.proofs.Common.{◌≡◌, length}
use Rattle.kp_watch.proofs.Lanes.{AreOpened}
use Rattle.kp_watch.proofs.machines.machines_of.Given as goal

abbrev pub invariant-loop : goal.invariant-loop
invariant-loop l = (length l.machines.items ≡ l.counter) × AreOpened l.job.design.job l.machines.items
