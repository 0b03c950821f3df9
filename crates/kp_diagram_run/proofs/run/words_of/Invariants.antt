use Rattle.std.proofs.Common.{◌≡◌}
use Rattle.kp_image.specs.Spans.{word_in}
use Rattle.kp_diagram_run.specs.inner.Words.{words_to}
use Rattle.kp_diagram_run.proofs.run.words_of.Given as goal

abbrev pub invariant-loop-cycle : goal.invariant-loop-cycle
invariant-loop-cycle l = l.words.items ≡ words_to (word_in l.job.sections.stalls) l.cycle
