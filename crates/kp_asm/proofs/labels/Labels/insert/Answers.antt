use Rattle.std.proofs.{Common.arith, lemmas.Grind.common_steps}
use Rattle.indexmap.proofs.CallerLemmas.{insert_entry-new}
use Rattle.kp_asm.proofs.labels.Labels.insert.Goals as goal

pub returns : goal.returns
returns c = grind (arith, common_steps, insert_entry-new)
