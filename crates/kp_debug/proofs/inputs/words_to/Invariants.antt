use Rattle.std.{proofs.Common.◌≡◌, specs.Prelude.vec_len}
use Rattle.kp_image.specs.Spans.{word_in}
use Rattle.kp_debug.specs.inner.Lists.{words_to}
use Rattle.kp_debug.proofs.inputs.words_to.Given as goal

abbrev pub invariant-loop-cycle : goal.invariant-loop-cycle
invariant-loop-cycle l = (l.words.items ≡ words_to (word_in l.stalls) l.cycle) × (vec_len l.words ≡ l.cycle)
