use Rattle.std.proofs.{Common.sym, Common.below_more, lemmas.Bool.both_ways}
use Rattle.kp_until_run.proofs.missed.others_missed.Goals as goal

pub loop-a-preserved-then-is_named : goal.loop-a-preserved-then-is_named
loop-a-preserved-then-is_named c = below_more _ _ c.loop-a.invariant (λ off. absurd (both_ways _ off (sym c.if-is_named.ensures)))
