-- The statuses of ends, and what a call that checks an input fails by.
use Rattle.std.specs.Prelude.{ℕ, Result, Ok, Err}
use Rattle.kp_base.specs.declared.refusal.Refused.{Refused}
use Rattle.kp_base.specs.declared.refusal.Refused.TheVariants as refused
use Rattle.kp_view.specs.declared.failure.Complaint.TheVariants as complaint
use Rattle.kp_view.specs.declared.failure.{Failure.Failure, Failure.TheVariants.Complained, Failure.TheVariants.Stopped, Stop.Stop}
use Rattle.kp_view.specs.declared.failure.Stop.TheVariants.{ReadFault, WriteFault, NoMemory}

abbrev pub stop_status : Stop → ℕ
stop_status ReadFault = 3
stop_status WriteFault = 4
stop_status NoMemory = 5

abbrev pub end_status : Result ℕ Stop → ℕ
end_status (Ok status) = status
end_status (Err stop) = stop_status stop

abbrev pub failure_of : Refused → Failure
failure_of (refused.Rule refusal) = Complained (complaint.Refused refusal)
failure_of refused.NoMemory = Stopped NoMemory
