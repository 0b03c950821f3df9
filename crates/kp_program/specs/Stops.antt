-- WHY A PROGRAM STOPPED: its status, and what standard error says.
use Rattle.std.specs.Prelude.{◌⊎◌, ◌==◌, ℕ, List, ◌++◌, codes, Option, if◌then◌else◌}
use Rattle.std.specs.{Borrow.Bor, Io.KnownBytes.Appends}
use Rattle.std.specs.declared.{io.ErrorKind.ErrorKind, result.Result.Result}
use Rattle.std.specs.declared.result.Result.TheVariants as results
use Rattle.std.specs.declared.io.ErrorKind.TheVariants as kinds
use Rattle.kp_base.specs.{Bytes.AppendsPart, Causes.Rose}
use Rattle.kp_program.specs.declared.stop.Stop.{Stop}
use Rattle.kp_program.specs.declared.stop.Stop.TheVariants.{Unread, Unwritten, NoMemory}

-- an error of this kind at the input of this name
abbrev pub stop_at : Bor (List ℕ) → ErrorKind → Stop
stop_at name kinds.OutOfMemory = NoMemory
stop_at name kind = Unread name kind

-- the status of a top call, where it says no stop
abbrev pub unless_stopped : Bor (List ℕ) → ℕ → Result ℕ Stop
unless_stopped name status =
    if status == 3 then results.Err (Unread name kinds.Other)
    else (if status == 4 then results.Err Unwritten
    else (if status == 5 then results.Err NoMemory else results.Ok status))

abbrev pub status_of : Stop → ℕ
status_of (Unread name kind) = 3
status_of Unwritten = 4
status_of NoMemory = 5

-- why an input can't be read
abbrev pub unread_reason : ErrorKind → List ℕ
unread_reason kinds.NotFound = codes "there is no such file"
unread_reason kinds.PermissionDenied = codes "it may not be read"
unread_reason kinds.IsADirectory = codes "it is a folder"
unread_reason kinds.InvalidData = codes "it has more than 16,777,216 bytes"
unread_reason _ = codes "reading failed"

abbrev pub reason_of : Stop → List ℕ
reason_of (Unread name kind) = unread_reason kind
reason_of Unwritten = codes "writing failed"
reason_of NoMemory = codes "out of memory"

-- `kpview: writing failed`, and with the name of an input `kpview: job.kp: it is a folder`
abbrev pub reason_text : List ℕ → List ℕ → List ℕ
reason_text program reason = program ++ (codes ": " ++ (reason ++ codes "\n"))

abbrev pub stop_text : List ℕ → Stop → List ℕ
stop_text program (Unread name kind) = program ++ (codes ": " ++ (name.now ++ (codes ": " ++ (unread_reason kind ++ codes "\n"))))
stop_text program Unwritten = reason_text program (reason_of Unwritten)
stop_text program NoMemory = reason_text program (reason_of NoMemory)

-- the text is appended, or a part of it where the sink fails
abbrev pub SaysOrFails : {S : Type 0} → (S → Option (List ℕ)) → (S → ℕ) → S → S → List ℕ → Type 0
SaysOrFails held faults old new text = Appends (held old) (held new) text ⊎ (AppendsPart (held old) (held new) text × Rose (faults old) (faults new))
