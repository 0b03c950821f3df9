use Rattle.std.proofs.Common.{ℕ, ◌≡◌, List, ◌++◌, drop, length, true}
use Rattle.std.specs.Fmt.{HasWritten, IsPlainFormatter}
use Rattle.kp_view_expected.specs.{GoesOn.all_classes, Texts.things, Texts.things_of, Texts.joined}
use Rattle.kp_view_expected.proofs.display.ExpectedDisplay.fmt.Given as goal

abbrev pub invariant-loop-i : goal.invariant-loop-i
invariant-loop-i g l =
    let rest = things l.group (drop l.i all_classes) (drop l.i l.fn.self.listed) in
    (l.left ≡ length rest)
    × (IsPlainFormatter l.initial.f → (done : List ℕ) × HasWritten g.W.Write.write_str_gives l.initial.f done l.f
    × (done ++ joined l.first rest ≡ joined true (things_of l.fn.self l.group)))
