use Rattle.std.proofs.Common.{◌≡◌, ◌++◌, drop}
use Rattle.kp_stalls_text.specs.Labels.{labels_from}
use Rattle.kp_stalls_text.proofs.labels.labels_of.Given as goal

abbrev pub invariant-loop-block : goal.invariant-loop-block
invariant-loop-block l = l.labels.items ++ labels_from (drop l.block-index l.blocks) ≡ labels_from l.blocks
