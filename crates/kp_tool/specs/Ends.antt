-- HOW A COMMAND ENDS: what was appended to the sink, by the result. `Due` is the outcomes that are specified.
use Rattle.std.specs.{Prelude.◌≡◌, Prelude.ℕ, Prelude.List, Prelude.Option, Prelude.Result, Prelude.Ok, Prelude.Err, Io.KnownBytes.Appends}
use Rattle.kp_base.specs.{Bytes.AppendsPart, Causes.Rose}
use Rattle.kp_report.specs.Texts.{refusal_line}
use Rattle.kp_tool.specs.declared.failure.{Failure.Failure, Failure.TheVariants.Refused, Failure.TheVariants.Misread, Failure.TheVariants.Stopped, Stop.Stop}
use Rattle.kp_tool.specs.declared.failure.Stop.TheVariants.{ReadFault, WriteFault, NoMemory}

-- The complete text of a specified outcome was appended, or a prefix of it if the sink failed, or nothing. `Unread`: the source failed.
abbrev pub EndsAt : {S : Type 0} → (S → Option (List ℕ)) → (S → ℕ) → Type 0 → (ℕ → List ℕ → Type 0) → S → S → Result ℕ Stop → Type 0
EndsAt held faults Unread Due old new (Ok status) = (text : List ℕ) × Due status text × Appends (held old) (held new) text
EndsAt held faults Unread Due old new (Err WriteFault) =
    Rose (faults old) (faults new) × (status : ℕ) × (text : List ℕ) × Due status text × AppendsPart (held old) (held new) text
EndsAt held faults Unread Due old new (Err ReadFault) = Unread × (new ≡ old)
EndsAt held faults Unread Due old new (Err NoMemory) = new ≡ old

-- The same where the line of a violated rule is still to be written: it is a specified outcome, and nothing was written.
abbrev pub Ends : {S : Type 0} → (S → Option (List ℕ)) → (S → ℕ) → Type 0 → (ℕ → List ℕ → Type 0) → S → S → Result ℕ Failure → Type 0
Ends held faults Unread Due old new (Ok status) = EndsAt held faults Unread Due old new (Ok status)
Ends held faults Unread Due old new (Err (Refused refusal)) = (new ≡ old) × Due 2 (refusal_line refusal)
Ends held faults Unread Due old new (Err (Misread refusal)) = (new ≡ old) × Due 6 (refusal_line refusal)
Ends held faults Unread Due old new (Err (Stopped stop)) = EndsAt held faults Unread Due old new (Err stop)
