use Rattle.std.proofs.Common.{◌≡◌, ℕ, ◌<◌, ◌≤◌, false, length, get_or}
use Rattle.kp_timing.specs.inner.Deciding.{is_full, moves_by}
use Rattle.kp_timing.proofs.timeline.row_of.Given as goal

abbrev pub invariant-loop-k : goal.invariant-loop-k
invariant-loop-k l = record {
  full : length l.full ≡ 12;
  ue : length l.ue ≡ 12;
  fulls : (j : ℕ) → j < l.k → get_or l.full j false ≡ is_full l.held j;
  ues : (j : ℕ) → j < l.k → get_or l.ue j false ≡ moves_by l.held l.found.blocked j;
  past : (j : ℕ) → l.k ≤ j → get_or l.full j false ≡ false;
  past_ue : (j : ℕ) → l.k ≤ j → get_or l.ue j false ≡ false;
}
