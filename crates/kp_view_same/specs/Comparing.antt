-- What is said of two inputs: a status and a text.
use Rattle.std.specs.Prelude.{◌≡◌, ◌⊎◌, ℕ, ◌≤◌, List, length, Option, Result, Ok, Err}
use Rattle.std.specs.Io.KnownBytes.{Consumes, IsAtEnd}
use Rattle.kp_base.specs.declared.refusal.Refusal.{Refusal}
use Rattle.kp_ast.specs.declared.tree.Job.{Job}
use Rattle.kp_frontend.specs.Judging.{Judges}
use Rattle.kp_same.specs.{Same.RunAlike, Verdicts.Says, declared.comparison.Verdict.Verdict}
use Rattle.kp_view_texts.specs.Heads.{rule_head}
use Rattle.kp_view_explain.specs.Explaining.{BeginsWith}
use Rattle.kp_view_same.specs.Texts.{verdict_status, verdict_text}

-- For two jobs that violate no rule: what the verdict says of them is true. For status 0 they run alike.
abbrev pub DueOfJobs : Job → Job → ℕ → List ℕ → Type 0
DueOfJobs a b status text =
    (verdict : Verdict) × Says a b verdict × (status ≡ verdict_status verdict) × (text ≡ verdict_text a verdict) × (status ≡ 0 → RunAlike a b)

-- For an input that violates a rule: the text begins with the name of its file, the place and the rule.
abbrev pub IsRefusal : List ℕ → Refusal → ℕ → List ℕ → Type 0
IsRefusal file refusal status text = (status ≡ 2) × BeginsWith (rule_head file refusal) text

-- a rule that the first input violates comes first
abbrev pub DueOfVerdicts : List ℕ → List ℕ → Result Job Refusal → Result Job Refusal → ℕ → List ℕ → Type 0
DueOfVerdicts file other (Err refusal) second status text = IsRefusal file refusal status text
DueOfVerdicts file other (Ok a) (Err refusal) status text = IsRefusal other refusal status text
DueOfVerdicts file other (Ok a) (Ok b) status text = DueOfJobs a b status text

-- THE OUTCOME for two inputs from files of these names.
pub record DueFor (file other first second : List ℕ) (status : ℕ) (text : List ℕ) : Type 0 where
  pub one : Result Job Refusal
  pub judged : Judges first one
  pub two : Result Job Refusal
  pub judged_second : Judges second two
  pub due : DueOfVerdicts file other one two status text

-- A source was read to its end, where an input of at most 16,777,216 bytes ends, or one byte further.
pub record IsRead (old new : Option (List ℕ)) (input : List ℕ) : Type 0 where
  pub consumed : Consumes old new input
  pub whole : (IsAtEnd new × (length input ≤ 16777216)) ⊎ (length input ≡ 16777217)

-- The status and the text are those for the bytes that were read from two sources.
pub record IsDue (file other : List ℕ) (old new old_second new_second : Option (List ℕ)) (status : ℕ) (text : List ℕ) : Type 0 where
  pub first : List ℕ
  pub read : IsRead old new first
  pub second : List ℕ
  pub read_second : IsRead old_second new_second second
  pub due : DueFor file other first second status text

-- THE HEADLINE. Both inputs are jobs that violate no rule, and they run alike: their sequential machines have the same state after every number of
-- instructions, and the pipelined machine of the second shows the sequential machine of the first.
pub record AreSame (first second : List ℕ) : Type 0 where
  pub a : Job
  pub judged : Judges first (Ok a)
  pub b : Job
  pub judged_second : Judges second (Ok b)
  pub alike : RunAlike a b
