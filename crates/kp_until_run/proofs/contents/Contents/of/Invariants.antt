use Rattle.std.proofs.Common.{◌≡◌, ◌<◌, ◌^◌, ℕ, length, get_or}
use Rattle.kp_bits.specs.Word.{Word}
use Rattle.kp_machine.specs.Words.{target}
use Rattle.kp_until_run.specs.inner.Pasts.{words_after}
use Rattle.kp_until_run.specs.declared.contents.Words.{Words}
use Rattle.kp_until_run.proofs.contents.Contents.of.Given as goal

abbrev pub invariant-loop-t : goal.invariant-loop-t
invariant-loop-t l = record {
  count : length l.targets.items ≡ l.t;
  sizes : (u : ℕ) (d : Words) → u < l.t → length (get_or l.targets.items u d).words.items ≡ 2 ^ (target l.job.design.job u).address;
  each : (u a : ℕ) (d : Words) (e : Word) → u < l.t → a < 2 ^ (target l.job.design.job u).address
      → get_or (get_or l.targets.items u d).words.items a e ≡ words_after l.job.design.job l._limit u l.count a;
}
