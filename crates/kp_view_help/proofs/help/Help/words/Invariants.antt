use Rattle.std.proofs.Common.{◌≡◌, ℕ, ◌^◌, ◌<◌}
use Rattle.kp_view_help.proofs.help.Help.words.Given as goal

abbrev pub invariant-loop-bits : goal.invariant-loop-bits
invariant-loop-bits l = (k : ℕ) → 4 < k → k < l.bits → l.value ≡ 2 ^ k → ⊥
