use Rattle.std.proofs.Common.{◌≡◌, ◌≤◌, ◌+◌, drop, length}
use Rattle.kp_view_expected.specs.{GoesOn.all_classes, Texts.things, Texts.things_of}
use Rattle.kp_view_expected.proofs.set.Expected.count.Given as goal

abbrev pub invariant-loop-i : goal.invariant-loop-i
invariant-loop-i l = (l.count ≤ l.i) × (l.count + length (things l.group (drop l.i all_classes) (drop l.i l.self.listed)) ≡ length (things_of l.self l.group))
