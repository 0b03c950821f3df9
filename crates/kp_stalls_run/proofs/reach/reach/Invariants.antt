use Rattle.std.{proofs.Common.◌≡◌, proofs.Common.◌+◌, proofs.Common.◌-◌, proofs.Common.◌≤◌, proofs.Common.length, specs.Prelude.max}
use Rattle.kp_machine.specs.Machine.{values_in}
use Rattle.kp_run.specs.Columns.{row_taken}
use Rattle.kp_stalls.specs.Windows.{Follows}
use Rattle.kp_stalls_run.proofs.reach.reach.Given as goal

abbrev pub invariant-loop-window : goal.invariant-loop-window
invariant-loop-window l = record {
  room : length l.room ≡ length l.columns;
  job : l.window.machine.job ≡ l.initial.window.machine.job;
  sites : l.window.sites ≡ l.initial.window.sites;
  least : l.initial.window.next ≤ l.window.next;
  most : l.window.next ≤ max l.initial.window.next (l.last + 1);
  follows : Follows l.initial.window.machine.job (λ i. values_in (row_taken l.columns i)) l.initial.window
      → Follows l.initial.window.machine.job (λ i. values_in (row_taken l.columns i)) l.window;
}

abbrev pub decreases-loop-window : goal.decreases-loop-window
decreases-loop-window l = l.last + 1 - l.window.next
