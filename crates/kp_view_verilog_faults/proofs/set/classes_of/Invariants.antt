use Rattle.std.proofs.Common.{◌≡◌, ◌++◌, map, drop}
use Rattle.kp_vlog.specs.declared.token.VToken.{VToken}
use Rattle.kp_view_verilog_faults.specs.Classes.{class_of}
use Rattle.kp_view_verilog_faults.proofs.set.classes_of.Given as goal

abbrev pub invariant-loop-token : goal.invariant-loop-token
invariant-loop-token l = l.classes.items ++ map (λ (t : VToken). class_of t.kind) (drop l.token-index l.tokens) ≡ map (λ (t : VToken). class_of t.kind) l.tokens
