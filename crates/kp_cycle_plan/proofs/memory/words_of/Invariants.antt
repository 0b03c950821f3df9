use Rattle.std.{proofs.Common.◌≡◌, proofs.Common.length, proofs.Common.take, specs.List.sum_by}
use Rattle.kp_cycle_plan.proofs.memory.words_of.Given as goal

abbrev pub invariant-loop-file : goal.invariant-loop-file
invariant-loop-file l = l.sum ≡ sum_by (λ f. length f.words) (take l.file-index l.files)
