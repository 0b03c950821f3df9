use Rattle.std.proofs.Common.{◌≡◌, drop}
use Rattle.kp_image.specs.Sections.{declared_in}
use Rattle.kp_image.proofs.check.declared_in.Given as goal

abbrev pub invariant-loop-decl : goal.invariant-loop-decl
invariant-loop-decl l = declared_in (drop l.decl-index l.decls) l.name ≡ declared_in l.decls l.name
