-- How a call ends: what is in the sinks after it, by its result, where `Due` has the expected statuses and texts.
use Rattle.std.specs.{Prelude.◌≡◌, Prelude.◌⊎◌, Prelude.ℕ, Prelude.List, Prelude.Option, Prelude.Result, Prelude.Ok, Prelude.Err, Io.KnownBytes.Appends}
use Rattle.kp_base.specs.{Bytes.AppendsPart, Causes.Rose}
use Rattle.kp_view.specs.{Complaints.complaint_status, Complaints.complaint_text, Due.Prints, Due.PrintsPart, declared.failure.Failure.Failure}
use Rattle.kp_view.specs.declared.failure.{Failure.TheVariants.Complained, Failure.TheVariants.Stopped, Stop.Stop}
use Rattle.kp_view.specs.declared.failure.Stop.TheVariants.{ReadFault, WriteFault, NoMemory}

-- A call that writes to standard output alone, with status 0: an expected text was appended in full, or a prefix of it where the sink failed. The
-- text of a complaint is still to be written, to standard error: it is expected, and nothing was written. `Unread` is what a failed read shows of the
-- source.
abbrev pub Ends : {S U : Type 0} → (S → Option (List ℕ)) → (S → ℕ) → Type 0 → (ℕ → List ℕ → Type 0) → Option (List ℕ) → S → S → Result U Failure → Type 0
Ends held faults Unread Due file old new (Ok _) = (text : List ℕ) × Due 0 text × Appends (held old) (held new) text
Ends held faults Unread Due file old new (Err (Complained complaint)) = (new ≡ old) × Due (complaint_status complaint) (complaint_text file complaint)
Ends held faults Unread Due file old new (Err (Stopped WriteFault)) =
    Rose (faults old) (faults new) × (text : List ℕ) × Due 0 text × AppendsPart (held old) (held new) text
Ends held faults Unread Due file old new (Err (Stopped ReadFault)) = Unread × (new ≡ old)
Ends held faults Unread Due file old new (Err (Stopped NoMemory)) = new ≡ old

-- The same of a call that writes complaints too: an expected text was printed in full, or a prefix of it where a sink failed.
abbrev pub EndsAt : {S T : Type 0} → (S → Option (List ℕ)) → (S → ℕ) → (T → Option (List ℕ)) → (T → ℕ) → Type 0 → (ℕ → List ℕ → Type 0)
    → S → S → T → T → Result ℕ Stop → Type 0
EndsAt held faults held_err faults_err Unread Due old new old_err new_err (Ok status) =
    (text : List ℕ) × Due status text × Prints held held_err old new old_err new_err status text
EndsAt held faults held_err faults_err Unread Due old new old_err new_err (Err WriteFault) =
    (Rose (faults old) (faults new) ⊎ Rose (faults_err old_err) (faults_err new_err))
    × (status : ℕ) × (text : List ℕ) × Due status text × PrintsPart held held_err old new old_err new_err status text
EndsAt held faults held_err faults_err Unread Due old new old_err new_err (Err ReadFault) = Unread × (new ≡ old) × (new_err ≡ old_err)
EndsAt held faults held_err faults_err Unread Due old new old_err new_err (Err NoMemory) = (new ≡ old) × (new_err ≡ old_err)
