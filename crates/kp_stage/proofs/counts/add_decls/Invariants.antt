use Rattle.std.proofs.Common.{◌≡◌, drop, true}
use Rattle.kp_stage.specs.Counts.{decls_counted, nothing_counted, is_within}
use Rattle.kp_stage.proofs.counts.add_decls.Given as goal

abbrev pub invariant-loop-decl : goal.invariant-loop-decl
invariant-loop-decl l = ((decls_counted l.counts (drop l.decl-index l.decls)).found ≡ (decls_counted nothing_counted l.decls).found) × (is_within l.counts ≡ true)
