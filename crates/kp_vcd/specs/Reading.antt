-- THE READER OF DUMPS: the dump that the tokens of a text denote in order, or the first of four rules that one of them violates.
--
-- 1: a dump can't continue with this token, or the text ends too early. 2: a width isn't in 1 to 64, or a code isn't that of the next signal. 3: a
-- change is of no declared signal, or doesn't have its width of bits; the position is that of its first token. 4: a time isn't greater than the one
-- before.
use Rattle.std.specs.Prelude.{ℕ, nat_lt, Bool, List, [], ◌∷◌, ◌++◌, length, codes, Option, None, Some, Result, Ok, Err, if◌then◌else◌}
use Rattle.kp_base.specs.{Place.place_after, declared.place.Place.Place}
use Rattle.kp_bits.specs.Word.{Word}
use Rattle.kp_vcd.specs.{declared.dump.Change.Change, declared.dump.Dump.Dump, Words.Spot, Words.words_of}
use Rattle.kp_vcd.specs.Forms.{Form, or_wrong, same_bytes, name_of, more_of, kind_of, width_of, code_of, index_of, time_of, said_by, change_of}
use Rattle.kp_vcd.specs.declared.forms.Said.{Said}
use Rattle.kp_vcd.specs.declared.forms.Said.TheVariants as said

-- a violated rule and its position
pub record Fault : Type 0 where
  pub rule : ℕ
  pub place : Place

-- what comes next in a dump
pub data Next : Type 0 where
  -- this token, then these, and after them something else
  given : List ℕ → List (List ℕ) → Next → Next
  module_name : Next
  -- `$var`, or `$upscope` after the last signal
  declaration : Next
  signal_kind : Next
  signal_width : Bool → Next
  signal_code : Bool → ℕ → Next
  signal_name : Bool → ℕ → Next
  first_time : Next
  -- after these changes at this time: a change, a greater time, or the end
  change : ℕ → List Change → Next
  -- the same after bits at this position with this value: the code of their signal
  change_code : ℕ → List Change → Place → Option Word → Next

-- what comes next, and the dump of the tokens so far, without the changes at the last time
pub record State : Type 0 where
  pub next : Next
  pub dump : Dump

abbrev pub Step : Type 0
Step = Result State Fault

abbrev pub at : Next → Dump → State
at n d = record { next = n; dump = d }

-- ---- the dump so far

abbrev pub named : List ℕ → Dump
named name = record { «module» = name; signals = []; moments = [] }

abbrev pub with_signal : Dump → Bool → ℕ → List ℕ → Dump
with_signal d reg width name = record d { signals = d.signals ++ record { name = name; reg = reg; width = width } ∷ [] }

abbrev pub with_moment : Dump → ℕ → List Change → Dump
with_moment d at changes = record d { moments = d.moments ++ record { at = at; changes = changes } ∷ [] }

-- ---- the tokens that are the same in each dump

abbrev pub these : List (List ℕ) → Next → Next
these [] n = n
these (g ∷ gs) n = given g gs n

-- `$timescale 1 ns $end $scope module`
abbrev pub head_words : List (List ℕ)
head_words = codes "$timescale" ∷ codes "1" ∷ codes "ns" ∷ codes "$end" ∷ codes "$scope" ∷ codes "module" ∷ []

-- `$end`, after a name
abbrev pub end_word : List (List ℕ)
end_word = codes "$end" ∷ []

-- `$end $enddefinitions $end`, after `$upscope`
abbrev pub foot_words : List (List ℕ)
foot_words = codes "$end" ∷ codes "$enddefinitions" ∷ codes "$end" ∷ []

-- ---- one token

-- the meaning of a token leads on, and a rule that it violates is reported at this position
abbrev pub says : {X : Type 0} → Form X → Place → (X → State) → Step
says (Err rule) place on = Err (record { rule = rule; place = place })
says (Ok x) place on = Ok (on x)

-- one change more at a time
abbrev pub changed : Dump → ℕ → List Change → Change → State
changed d time changes c = at (change time (changes ++ c ∷ [])) d

-- the first token of a change, at this position
abbrev pub begins : Dump → ℕ → List Change → Place → Said → Step
begins d time changes place (said.Short i value) = says (change_of d.signals i (Some value)) place (changed d time changes)
begins d time changes place (said.Bits value) = Ok (at (change_code time changes place value) d)
begins d time changes place said.Other = Err (record { rule = 1; place = place })

-- a time or a change
abbrev pub goes_on : Dump → ℕ → List Change → Spot → Option ℕ → Step
goes_on d time changes w None = begins d time changes w.place (said_by w.bytes)
goes_on d time changes w (Some t) =
    if nat_lt time t then Ok (at (change t []) (with_moment d time changes)) else Err (record { rule = 4; place = w.place })

-- the code after bits: rule 3 is reported at the bits
abbrev pub closes : Dump → ℕ → List Change → Place → Option Word → Place → Option ℕ → Step
closes d time changes first value place None = Err (record { rule = 1; place = place })
closes d time changes first value place (Some i) = says (change_of d.signals i value) first (changed d time changes)

abbrev pub step_to : Next → Dump → Spot → Step
step_to (given g gs n) d w = if same_bytes w.bytes g then Ok (at (these gs n) d) else Err (record { rule = 1; place = w.place })
step_to module_name d w = says (name_of w.bytes) w.place (λ name. at (these end_word declaration) (named name))
step_to declaration d w = says (more_of w.bytes) w.place (λ more. at (if more then signal_kind else these foot_words first_time) d)
step_to signal_kind d w = says (kind_of w.bytes) w.place (λ reg. at (signal_width reg) d)
step_to (signal_width reg) d w = says (width_of w.bytes) w.place (λ n. at (signal_code reg n) d)
step_to (signal_code reg n) d w = says (code_of (length d.signals) w.bytes) w.place (λ i. at (signal_name reg n) d)
step_to (signal_name reg n) d w = says (name_of w.bytes) w.place (λ name. at (these end_word declaration) (with_signal d reg n name))
step_to first_time d w = says (or_wrong (time_of w.bytes)) w.place (λ t. at (change t []) d)
step_to (change time changes) d w = goes_on d time changes w (time_of w.bytes)
step_to (change_code time changes first value) d w = closes d time changes first value w.place (index_of w.bytes)

abbrev pub step : State → Spot → Step
step s w = step_to s.next s.dump w

-- ---- the complete text

-- a dump may end after its definitions, and after each time and each change
abbrev pub ends : Next → Dump → Place → Result Dump Fault
ends first_time d end = Ok d
ends (change time changes) d end = Ok (with_moment d time changes)
ends _ d end = Err (record { rule = 1; place = end })

-- the tokens of the rest of a text, and its end
abbrev pub walk : Step → List Spot → Place → Result Dump Fault
walk (Err fault) ws end = Err fault
walk (Ok s) [] end = ends s.next s.dump end
walk (Ok s) (w ∷ ws) end = walk (step s w) ws end

abbrev pub begin : State
begin = at (these head_words module_name) (named [])

-- THE VERDICT: the dump of a text, or the first violated rule and its position
abbrev pub verdict : List ℕ → Result Dump Fault
verdict text = walk (Ok begin) (words_of text) (place_after text)
