use Rattle.std.proofs.Common.{◌≡◌, drop}
use Rattle.kp_view_message.specs.Earlier.{line_in}
use Rattle.kp_view_message.proofs.earlier.line_in.Given as goal

abbrev pub invariant-loop-decl : goal.invariant-loop-decl
invariant-loop-decl l = line_in l.name l.fault (drop l.decl-index l.decls) ≡ line_in l.name l.fault l.decls
