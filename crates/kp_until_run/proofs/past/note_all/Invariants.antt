use Rattle.std.proofs.Common.{◌≡◌, ◌+◌, ◌<◌, ◌≤◌, ℕ, length, get_or}
use Rattle.kp_machine.specs.Slots.{targets_of}
use Rattle.kp_until_run.specs.inner.Pasts.{IsHistory}
use Rattle.kp_until_run.specs.declared.history.History.{History}
use Rattle.kp_until_run.proofs.past.note_all.Given as goal

abbrev pub invariant-loop-t : goal.invariant-loop-t
invariant-loop-t l = record {
  count : length l.histories ≡ length (targets_of l.job.design.job.decls);
  done : (u : ℕ) (d : History) → u < l.t → IsHistory l.job.design.job l._limit (l.cycle + 1) u (get_or l.histories u d);
  left : (u : ℕ) (d : History) → l.t ≤ u → u < length (targets_of l.job.design.job.decls) → IsHistory l.job.design.job l._limit l.cycle u (get_or l.histories u d);
}
