-- Lines that are read one by one.
use Rattle.std.specs.Prelude.{◌≡◌, List, Option, Some, None, Result, Ok, Err, ⊤}
use Rattle.kp_core_ports.specs.{Ports.with_line, declared.port.Port.Port, declared.port.PortRefusal.PortRefusal, declared.port.PortsRefused.PortsRefused}
use Rattle.kp_core_ports.specs.declared.port.PortsRefused.TheVariants.{Rule, NoMemory}

-- what a call returns that reads a line, which may have no tokens
abbrev pub Finds : Result (Option Port) PortsRefused → Option (Result Port PortRefusal) → Type 0
Finds (Ok None) line = line ≡ None
Finds (Ok (Some port)) line = line ≡ Some (Ok port)
Finds (Err (Rule refusal)) line = line ≡ Some (Err refusal)
Finds (Err NoMemory) line = ⊤

-- the ports of a line were appended to these ports, if it asks for some, whatever the lines after it are
abbrev pub IsAdded : Option (Result Port PortRefusal) → List Port → List Port → Type 0
IsAdded line old new = (rest : List Port → Result (List Port) PortRefusal) → with_line old line rest ≡ rest new

-- the line violates this rule, whatever the lines after it are; or out of memory
abbrev pub IsBroken : Option (Result Port PortRefusal) → List Port → PortsRefused → Type 0
IsBroken line old (Rule refusal) = (rest : List Port → Result (List Port) PortRefusal) → with_line old line rest ≡ Err refusal
IsBroken line old NoMemory = ⊤
