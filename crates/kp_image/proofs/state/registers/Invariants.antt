use Rattle.std.proofs.Common.{◌≡◌, ◌++◌, drop}
use Rattle.kp_stage.specs.Start.{start_regs}
use Rattle.kp_image.proofs.state.registers.Given as goal

abbrev pub invariant-loop-decl : goal.invariant-loop-decl
invariant-loop-decl l = l.regs.items ++ start_regs l.entries (drop l.decl-index l.decls) ≡ start_regs l.entries l.decls
