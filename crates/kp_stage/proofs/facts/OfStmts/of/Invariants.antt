use Rattle.std.proofs.Common.{◌≡◌, [], None, drop}
use Rattle.kp_stage.specs.inner.Tables.{given, between, blocks_noted}
use Rattle.kp_stage.proofs.facts.OfStmts.of.Given as goal

abbrev pub invariant-loop-k : goal.invariant-loop-k
invariant-loop-k l = blocks_noted (given l.given []) l.k (drop l.k l.blocks) ≡ blocks_noted (between (λ q. None) (λ q. None) []) 0 l.blocks
