-- Inputs as they are read and judged.
use Rattle.std.specs.Prelude.{◌≡◌, ℕ, ◌≤◌, List, length, Ok, Err}
use Rattle.kp_base.specs.declared.refusal.Refusal.{Refusal}
use Rattle.kp_frontend.specs.Judging.{Judges}
use Rattle.kp_view_same.specs.Comparing.{IsRefusal}
use Rattle.kp_view_same.specs.declared.{input.Input.Input, judged.Judged.Judged, top.Side.Side, top.Stop.Stop}
use Rattle.kp_view_same.specs.declared.input.Input.TheVariants as inputs
use Rattle.kp_view_same.specs.declared.judged.Judged.TheVariants as judged
use Rattle.kp_view_same.specs.declared.top.Side.TheVariants.{First, Second}
use Rattle.kp_view_same.specs.declared.top.Stop.TheVariants.{Unread, Unwritten, NoMemory}

-- the bytes that were read
abbrev pub Holds : Input → List ℕ → Type 0
Holds (inputs.Text text) taken = (taken ≡ text.items) × (length taken ≤ 16777216)
Holds inputs.TooLong taken = length taken ≡ 16777217

-- the bytes aren't more than an input may have
abbrev pub IsShort : Input → Type 0
IsShort (inputs.Text text) = length text.items ≤ 16777216
IsShort inputs.TooLong = Unit {0}

-- the job that they are, or what is said of the first rule that they violate
abbrev pub IsJudged : List ℕ → List ℕ → Judged → Type 0
IsJudged file taken (judged.Job job) = Judges taken (Ok job.design.job)
IsJudged file taken (judged.Refused said) = (refusal : Refusal) × Judges taken (Err refusal) × IsRefusal file refusal said.status said.text.items

-- what failed, by what a failed read of each source shows
abbrev pub Caused : Type 0 → Type 0 → Stop → Type 0
Caused first second (Unread First) = first
Caused first second (Unread Second) = second
Caused first second Unwritten = ⊥
Caused first second NoMemory = Unit {0}

abbrev pub CausedAt : Side → Type 0 → Stop → Type 0
CausedAt First failed stop = Caused failed ⊥ stop
CausedAt Second failed stop = Caused ⊥ failed stop
