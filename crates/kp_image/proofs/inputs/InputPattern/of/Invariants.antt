use Rattle.std.proofs.Common.{◌≡◌, ◌++◌, drop}
use Rattle.kp_image.specs.inner.Kept.{feeds_of}
use Rattle.kp_image.proofs.inputs.InputPattern.of.Given as goal

abbrev pub invariant-loop-decl : goal.invariant-loop-decl
invariant-loop-decl l = l.feeds.items ++ feeds_of l.entries (drop l.decl-index l.decls) ≡ feeds_of l.entries l.decls
