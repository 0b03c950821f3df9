-- Lines that are read one by one.
use Rattle.std.specs.Prelude.{◌≡◌, List, Result, Ok, Err, ⊤}
use Rattle.kp_until.specs.Expected.{Outcome}
use Rattle.kp_until.specs.declared.{expected.Check.Check, lines.LineStop.LineStop}
use Rattle.kp_until.specs.declared.lines.LineStop.TheVariants.{Rule, NoMemory}

-- what a call returns that adds the checks of a line, and the checks after it
abbrev pub Adds : {T : Type 0} → Result T LineStop → Outcome → List Check → Type 0
Adds (Ok _) outcome new = outcome ≡ Ok new
Adds (Err (Rule rule)) outcome new = outcome ≡ Err rule
Adds (Err NoMemory) outcome new = ⊤
