-- The statuses of ends, and the failure for an input that was not accepted.
use Rattle.std.specs.Prelude.{ℕ, Result, Ok, Err}
use Rattle.kp_base.specs.declared.refusal.Refused.{Refused}
use Rattle.kp_base.specs.declared.refusal.Refused.TheVariants as refused
use Rattle.kp_tool.specs.declared.failure.Failure.{Failure, TheVariants.Refused as Rule, TheVariants.Misread, TheVariants.Stopped}
use Rattle.kp_tool.specs.declared.failure.Stop.{Stop, TheVariants.ReadFault, TheVariants.WriteFault, TheVariants.NoMemory}

abbrev pub stop_status : Stop → ℕ
stop_status ReadFault = 3
stop_status WriteFault = 4
stop_status NoMemory = 5

abbrev pub end_status : Result ℕ Stop → ℕ
end_status (Ok status) = status
end_status (Err stop) = stop_status stop

-- a rule of the language, or out of memory
abbrev pub failure_of : Refused → Failure
failure_of (refused.Rule refusal) = Rule refusal
failure_of refused.NoMemory = Stopped NoMemory

-- a rule of Verilog, or out of memory
abbrev pub misread_of : Refused → Failure
misread_of (refused.Rule refusal) = Misread refusal
misread_of refused.NoMemory = Stopped NoMemory
