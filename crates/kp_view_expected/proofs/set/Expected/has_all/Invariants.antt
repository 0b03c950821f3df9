use Rattle.std.proofs.Common.{◌≡◌, drop}
use Rattle.kp_view_expected.specs.{GoesOn.all_classes, Texts.all_of}
use Rattle.kp_view_expected.proofs.set.Expected.has_all.Given as goal

abbrev pub invariant-loop-i : goal.invariant-loop-i
invariant-loop-i l = all_of l.group all_classes l.self.listed ≡ all_of l.group (drop l.i all_classes) (drop l.i l.self.listed)
