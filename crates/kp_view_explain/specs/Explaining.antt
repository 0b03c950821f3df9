-- What is said of an input: a status, and a text for standard error.
use Rattle.std.specs.Prelude.{◌≡◌, ◌≢◌, ◌<◌, ◌≤◌, [], ◌++◌, ◌⊎◌, ◌&&◌, Bool, ℕ, List, length, drop, ltb, if◌then◌else◌, Option, Some, None, Result, Ok, Err}
use Rattle.std.specs.Prelude.{IfSome}
use Rattle.std.specs.Io.KnownBytes.{Consumes, IsAtEnd}
use Rattle.kp_base.specs.{Refusal.v_rule, declared.refusal.Refusal.Refusal}
use Rattle.kp_ast.specs.declared.tree.Job.{Job}
use Rattle.kp_net.specs.Netlist.{Net}
use Rattle.kp_asm.specs.Program.{assembled}
use Rattle.kp_vlog.specs.{Denote.Denotes, Verdict.IsRefused}
use Rattle.kp_debug_script.specs.Scripts.{script_of}
use Rattle.kp_implements.specs.Shows.{IsOfJob}
use Rattle.kp_frontend.specs.Judging.{JudgesText, JudgesHeadText, most_bytes, too_long}
use Rattle.kp_view_texts.specs.Heads.{rule_head}
use Rattle.kp_view_explain.specs.{Listing.ListsNext, Printed.IsPrinted, Showing.Shows, declared.words.Subject.Subject}
use Rattle.kp_view_explain.specs.declared.words.Subject.TheVariants as subjects

-- the violated rule, if a verdict is one
abbrev pub rule_of : {X : Type 0} → Result X Refusal → Option Refusal
rule_of (Ok x) = None
rule_of (Err refusal) = Some refusal

-- The first of V1 to V5 that the Verilog text from an offset on violates, or none where it denotes a netlist.
abbrev pub FindsInVerilog : List ℕ → ℕ → Option Refusal → Type 0
FindsInVerilog text from None = (net : Net) × Denotes from (drop from text) net
FindsInVerilog text from (Some refusal) = IsRefused text from refusal

-- V6: the text denotes a netlist, which isn't one of the job
abbrev pub IsOther : Job → List ℕ → ℕ → Refusal → Type 0
IsOther job text from refusal =
    (net : Net) × Denotes from (drop from text) net × (IsOfJob net job → ⊥) × (refusal ≡ v_rule 6 (record { line = 1; col = 1 }))

-- The first of V1 to V6 that the Verilog text after a job violates, or none where it denotes a netlist of the job.
abbrev pub FindsInModule : Job → List ℕ → ℕ → Option Refusal → Type 0
FindsInModule job text from None = (net : Net) × Denotes from (drop from text) net × IsOfJob net job
FindsInModule job text from (Some refusal) = IsRefused text from refusal ⊎ IsOther job text from refusal

-- the same, where a rule of the job comes first
abbrev pub FindsWatched : List ℕ → Result (Job × ℕ) Refusal → Option Refusal → Type 0
FindsWatched text (Ok (job, from)) found = FindsInModule job text from found
FindsWatched text (Err refusal) found = found ≡ Some refusal

-- the first of E39 to E41 that the script after a job violates, where a rule of the job comes first
abbrev pub in_script : List ℕ → Result (Job × ℕ) Refusal → Option Refusal
in_script text (Ok (job, from)) = rule_of (script_of job.decls text from)
in_script text (Err refusal) = Some refusal

-- The first rule that an input which is not too long violates, or none.
abbrev pub FindsIn : Subject → List ℕ → Option Refusal → Type 0
FindsIn subjects.Job text found = (verdict : Result Job Refusal) × JudgesText text verdict × (found ≡ rule_of verdict)
FindsIn subjects.Verilog text found = FindsInVerilog text 0 found
FindsIn subjects.Watched text found = (verdict : Result (Job × ℕ) Refusal) × JudgesHeadText text verdict × FindsWatched text verdict found
FindsIn subjects.Program text found = found ≡ rule_of (assembled text)
FindsIn subjects.Debugged text found = (verdict : Result (Job × ℕ) Refusal) × JudgesHeadText text verdict × (found ≡ in_script text verdict)

-- The first rule that an input violates, or none.
pub data Finds (subject : Subject) (input : List ℕ) : Option Refusal → Type 0 where
  -- E3
  over : most_bytes < length input → Finds subject input (Some too_long)
  within : {found : Option Refusal} → length input ≤ most_bytes → FindsIn subject input found → Finds subject input found

-- the status for an accepted job with these warnings, where warnings may count as errors
abbrev pub warned : Bool → List ℕ → ℕ
warned strict text = if strict && ltb 0 (length text) then 2 else 0

-- the text begins with these bytes
abbrev pub BeginsWith : List ℕ → List ℕ → Type 0
BeginsWith front text = (rest : List ℕ) × (text ≡ front ++ rest)

-- the outcome for an input that violates no rule: for a job its warnings, and status 0, or 2 where there are some and they count as errors; for other inputs
-- status 0 and no text
abbrev pub SaysOfAccepted : Subject → Bool → List ℕ → List ℕ → ℕ → List ℕ → Type 0
SaysOfAccepted subjects.Job strict file input status text =
    (job : Job) × JudgesText input (Ok job) × IsPrinted file input job text × (status ≡ warned strict text)
SaysOfAccepted _ strict file input status text = (status ≡ 0) × (text ≡ [])

-- The outcome for an input. Where it violates a rule the status is 2, and the text begins with the file, the place and the first rule that it violates.
abbrev pub Says : Subject → Bool → List ℕ → List ℕ → Option Refusal → ℕ → List ℕ → Type 0
Says subject strict file input None status text = SaysOfAccepted subject strict file input status text
Says subject strict file input (Some refusal) status text = (status ≡ 2) × BeginsWith (rule_head file refusal) text

-- the same, for what the rules find in an input that is not too long
abbrev pub ExplainsText : Subject → Bool → List ℕ → List ℕ → ℕ → List ℕ → Type 0
ExplainsText subject strict file input status text = (found : Option Refusal) × FindsIn subject input found × Says subject strict file input found status text

-- the same for any input
abbrev pub Explains : Subject → Bool → List ℕ → List ℕ → ℕ → List ℕ → Type 0
Explains subject strict file input status text = (found : Option Refusal) × Finds subject input found × Says subject strict file input found status text

-- The text shows the place of the first rule that an input violates which is not too long, if it violates one.
abbrev pub ShowsFirst : Subject → List ℕ → List ℕ → List ℕ → Type 0
ShowsFirst subject file input text =
    (found : Option Refusal) × FindsIn subject input found × IfSome found (λ refusal. Shows subject file input refusal text)

-- the input begins with a job
abbrev pub HasJob : Subject → Type 0
HasJob subjects.Verilog = ⊥
HasJob subjects.Program = ⊥
HasJob _ = Unit {0}

-- The status and the text are those for the bytes that were read from a source: to its end, where an input of at most 16,777,216 bytes ends, or one byte
-- further.
pub record IsExplained (subject : Subject) (strict : Bool) (file : List ℕ) (old new : Option (List ℕ)) (status : ℕ) (text : List ℕ) : Type 0 where
  pub input : List ℕ
  pub consumed : Consumes old new input
  pub whole : (IsAtEnd new × (length input ≤ 16777216)) ⊎ (length input ≡ 16777217)
  pub explained : Explains subject strict file input status text
  -- So it is what is said for the verdict by which `kp` accepts or rejects the input.
  pub agrees : (found : Option Refusal) → Finds subject input found → Says subject strict file input found status text
  pub next : HasJob subject → length input ≤ most_bytes → ListsNext file input text
  pub shown : length input ≤ most_bytes → ShowsFirst subject file input text

-- a status of an outcome: not that of a read fault (3), a write fault (4) or of out of memory (5)
abbrev pub IsFinal : ℕ → Type 0
IsFinal status = (status ≢ 3) × (status ≢ 4) × (status ≢ 5)
