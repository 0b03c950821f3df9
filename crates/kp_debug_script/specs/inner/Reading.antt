-- A script that is read line by line.
use Rattle.std.specs.Prelude.{◌≡◌, ◌≤◌, ℕ, List, ◌++◌, length, Option, Result, Ok, Err, IfErr, ⊤}
use Rattle.kp_debug_script.specs.{Scripts.with_line, Scripts.placed, declared.command.Command.Command, declared.fault.Fault.Fault, declared.fault.Misread.Misread}
use Rattle.kp_debug_script.specs.declared.fault.Misread.TheVariants as misread

-- commands that were read already, before those of a script
abbrev pub behind : List Command → Result (List Command) Fault → Result (List Command) Fault
behind old (Err e) = Err e
behind old (Ok new) = Ok (old ++ new)

-- the command of a line, if it has one, was appended to these commands, whatever the lines after it are
abbrev pub IsAdded : Option (Result Command Fault) → List Command → List Command → Type 0
IsAdded line old new = (rest : Result (List Command) Fault) → behind old (with_line line rest) ≡ behind new rest

-- this is the violation of the line, whatever the lines after it are; or out of memory
abbrev pub IsBroken : List ℕ → Option (Result Command Fault) → Misread → Type 0
IsBroken text line (misread.Found f) = (rest : Result (List Command) Fault) → placed text (with_line line rest) ≡ Err f
IsBroken text line misread.NoMemory = ⊤

-- a violated rule is reported at a byte of the text, or at its end
abbrev pub IsFaultIn : {X : Type 0} → List ℕ → Result X Fault → Type 0
IsFaultIn text result = IfErr result (λ fault. fault.at ≤ length text)
