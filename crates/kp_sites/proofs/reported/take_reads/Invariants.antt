use Rattle.std.proofs.Common.{◌≡◌, ℕ, ◌<◌, None, length, get_or}
use Rattle.kp_sites.proofs.reported.take_reads.Given as goal

abbrev pub invariant-loop-i : goal.invariant-loop-i
invariant-loop-i l = record {
  count : length l.reads ≡ length l.initial.reads;
  taken : (k : ℕ) → k < l.i → get_or l.reads k None ≡ get_or l.machine.last.reads k None;
}
