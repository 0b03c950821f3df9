use Rattle.std.proofs.Common.{◌≡◌, ◌++◌, drop}
use Rattle.kp_stage.specs.Start.{start_files}
use Rattle.kp_image.proofs.state.files.Given as goal

abbrev pub invariant-loop-decl : goal.invariant-loop-decl
invariant-loop-decl l = l.files.items ++ start_files l.entries (drop l.decl-index l.decls) ≡ start_files l.entries l.decls
