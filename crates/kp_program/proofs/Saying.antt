-- A text was written, or the sink failed.
use Rattle.std.proofs.Common.{ℕ, List, Option, Result, Ok, Err, inl, inr}
use Rattle.kp_base.specs.{Bytes.Writes, Causes.HasCause}
use Rattle.kp_program.specs.Stops.{SaysOrFails}

pub says : {S T E : Type 0} (held : S → Option (List ℕ)) (faults : S → ℕ) (old new : S) (text : List ℕ) (said : Result T E)
    → Writes (held old) (held new) text said → HasCause (faults old) (faults new) said → SaysOrFails held faults old new text
says held faults old new text (Ok _) writes cause = inl writes
says held faults old new text (Err _) writes cause = inr (writes, cause.failed)
