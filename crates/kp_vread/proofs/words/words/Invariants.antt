use Rattle.std.{proofs.Common.◌≡◌, proofs.Common.take, proofs.Common.length, specs.Prelude.replicate, specs.Prelude.fold}
use Rattle.kp_vlog.specs.Denote.{word_init}
use Rattle.kp_vread.proofs.words.words.Given as goal

abbrev pub invariant-loop-init : goal.invariant-loop-init
invariant-loop-init l = (length l.words.items ≡ l.count) × (l.words.items ≡ fold (word_init l.count l.name) (replicate l.count 0) (take l.init-index l.inits))
