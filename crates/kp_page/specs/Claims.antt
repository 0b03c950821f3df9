-- WHAT FOLLOWS FROM THE RECORDED STATES: all of each state.
use Rattle.std.specs.Prelude.{ℕ, zero, suc, ◌==◌, if◌then◌else◌}
use Rattle.kp_report.specs.States.{State}

-- The value that is listed last up to cycle T, or 0 if none is. In cycle T a word is listed where it differs from the cycle before.
abbrev pub listed_last : (ℕ → State) → ℕ → State
listed_last visible zero t a = if visible 0 t a == 0 then 0 else visible 0 t a
listed_last visible (suc T) t a = if visible (suc T) t a == visible T t a then listed_last visible T t a else visible (suc T) t a
