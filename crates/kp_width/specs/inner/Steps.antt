-- What a check of an item returns that also adds names: the outcome of the steps, or out of memory.
use Rattle.std.specs.Prelude.{◌≡◌, Result, Ok, Err, false, nat_le, length, ⊤}
use Rattle.kp_base.specs.Findings.{Collected}
use Rattle.kp_width.specs.Faults.{WidthFinding}
use Rattle.kp_width.specs.declared.fault.Stop.{Stop}
use Rattle.kp_width.specs.declared.fault.Stop.TheVariants as stop

-- `value` maps the result to what is specified
abbrev pub Gives : {T X : Type 0} → Result T Stop → Result X WidthFinding → (T → X) → Type 0
Gives (Ok t) found value = found ≡ Ok (value t)
Gives (Err (stop.Found f)) found value = found ≡ Err f
Gives (Err stop.NoMemory) found value = ⊤

-- this holds if a rule is violated
abbrev pub IfFound : {T : Type 0} → Result T Stop → Type 0 → Type 0
IfFound (Err (stop.Found f)) P = P
IfFound _ P = ⊤

-- this holds unless the memory ends
abbrev pub UnlessNoMemory : {T : Type 0} → Result T Stop → Type 0 → Type 0
UnlessNoMemory (Err stop.NoMemory) P = ⊤
UnlessNoMemory _ P = P

-- there aren't enough findings yet
abbrev pub HasRoom : {F : Type 0} → Collected F → Type 0
HasRoom n = nat_le n.most (length n.found) ≡ false
