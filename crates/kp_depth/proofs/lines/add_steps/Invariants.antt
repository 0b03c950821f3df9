use Rattle.std.proofs.Common.{◌≡◌, ◌-◌, ◌++◌, drop, length}
use Rattle.kp_depth.specs.{Statements.origin, Text.steps_text}
use Rattle.kp_depth.proofs.lines.add_steps.Given as goal

abbrev pub invariant-loop-done : goal.invariant-loop-done
invariant-loop-done l =
    (l.out.items ≡ l.fn.out.items ++ steps_text l.source.layout.now l.source.net.now l.source.wires.now l.source.times.now.all.items (drop (length l.steps - l.done) l.steps))
    × (l.from ≡ origin l.source.layout.now l.source.net.now l.source.wires.now (drop (length l.steps - l.done) l.steps))
