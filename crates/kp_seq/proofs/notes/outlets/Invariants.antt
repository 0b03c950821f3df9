use Rattle.std.proofs.Common.{◌≡◌, ◌++◌, drop}
use Rattle.kp_seq.specs.inner.Notes.{outlets_of}
use Rattle.kp_seq.proofs.notes.outlets.Given as goal

abbrev pub invariant-loop-decl : goal.invariant-loop-decl
invariant-loop-decl l = l.outlets.items ++ outlets_of l.targets l.pipes (drop l.decl-index l.decls) ≡ outlets_of l.targets l.pipes l.decls
