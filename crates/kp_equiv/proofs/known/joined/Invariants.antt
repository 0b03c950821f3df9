use Rattle.std.proofs.Common.{◌≡◌, length, map, take}
use Rattle.kp_equiv.specs.Classes.{class_in}
use Rattle.kp_equiv.proofs.known.joined.Given as goal

abbrev pub invariant-loop-i : goal.invariant-loop-i
invariant-loop-i l = (length l.there ≡ 12) × (take l.i l.there ≡ map (class_in l.classes) (take l.i l.parts))
