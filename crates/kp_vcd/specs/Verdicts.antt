-- What a call that reads a dump returns.
use Rattle.std.specs.Prelude.{◌≡◌, Result, Ok, Err, ⊤}
use Rattle.kp_vcd.specs.{declared.dump.Dump.Dump, Reading.Fault}
use Rattle.kp_vcd.specs.declared.refused.DumpRefused.{DumpRefused}
use Rattle.kp_vcd.specs.declared.refused.DumpRefused.TheVariants as refused

-- a part of the reader returns the fault of the verdict, or out of memory
abbrev pub Fails : Result Dump Fault → DumpRefused → Type 0
Fails whole (refused.Rule rule place) = whole ≡ Err (record { rule = rule; place = place })
Fails whole refused.NoMemory = ⊤

-- the verdict is the same as the one after a part, or the part fails
abbrev pub Meets : {T : Type 0} → Result Dump Fault → (T → Result Dump Fault) → Result T DumpRefused → Type 0
Meets whole behind (Ok x) = whole ≡ behind x
Meets whole behind (Err e) = Fails whole e
