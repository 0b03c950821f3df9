use Rattle.std.proofs.Common.{◌≡◌, ◌++◌}
use Rattle.kp_wires.specs.{Table.below, Texts.lines_head, Texts.scope_text}
use Rattle.kp_wires.proofs.named.named_lines.Given as goal

abbrev pub invariant-loop-k : goal.invariant-loop-k
invariant-loop-k l = l.text.items ≡ lines_head ++ below (scope_text l.net l.layout l.wires) l.k
