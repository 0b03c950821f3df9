-- WHAT IS READ for a job: the conditions on which its run ends, what is printed, and what its directives and the expectation files expect; or what is said of
-- the first of these that isn't accepted.
use Rattle.std.specs.Prelude.{ℕ, ◌+◌, ◌-◌, ◌==◌, if◌then◌else◌, List, [], ◌∷◌, ◌++◌, map, flat_map, length, take, codes, decimal, get_or, Option, Some, None, Result, Ok, Err}
use Rattle.kp_base.specs.{Lines.Piece, Lines.piece_of, Lines.words_of, Place.place_after, declared.place.Place.Place, declared.run.Run.Run}
use Rattle.kp_command_line.specs.Words.{Text}
use Rattle.kp_ast.specs.declared.tree.Job.{Job}
use Rattle.kp_directive.specs.{Directives.directives_of, Faults.broken_in, Faults.has_verb, Messages.joined, Messages.message}
use Rattle.kp_directive.specs.declared.directive.{Directive.Directive, DirectiveFault.DirectiveFault, Verb.TheVariants.Expect}
use Rattle.kp_until.specs.{Parts.part_of, Untils.until_of, Expected.Script, Expected.expected_of}
use Rattle.kp_until.specs.declared.{part.Part.Part, part.PartFault.PartFault, until.Until.Until, until.Until.TheVariants.Halt, until.UntilFault.UntilFault, expected.LineFault.LineFault, expected.LineRule.LineRule}
use Rattle.kp_until.specs.declared.expected.LineRule.TheVariants.{Form}
use Rattle.kp_runner.specs.Words.{Settings}
use Rattle.kp_runner.specs.declared.answer.{File.File as code}

-- a file: its name and its text
pub record File : Type 0 where
  pub name : Text
  pub text : List ℕ

abbrev pub file_seen : code → File
file_seen f = record { name = f.name.items; text = f.text.items }

abbrev pub named : Text → List ℕ → File
named name text = record { name = name; text = text }

-- what is said of what isn't accepted: the status, and how the text begins
pub record Complaint : Type 0 where
  pub status : ℕ
  pub begins : List ℕ

abbrev pub and_then : {A B E : Type 0} → Result A E → (A → Result B E) → Result B E
and_then (Ok a) more = more a
and_then (Err e) more = Err e

abbrev pub or_said : {A E : Type 0} → (E → Complaint) → Result A E → Result A Complaint
or_said said (Ok a) = Ok a
or_said said (Err e) = Err (said e)

-- a word of the command line that names nothing of the job
abbrev pub bad_word : {E : Type 0} → E → Complaint
bad_word fault = record { status = 1; begins = codes "kprun: " }

-- ---- the words

-- the conditions of these words, after others
abbrev pub untils_from : Job → List Until → List Text → Result (List Until) Complaint
untils_from job done [] = Ok done
untils_from job done (word ∷ words) = and_then (or_said bad_word (until_of job word)) (λ until. untils_from job (done ++ until ∷ []) words)

-- without any word it is `halt`
abbrev pub untils_read : Job → List Text → Result (List Until) Complaint
untils_read job words = if length words == 0 then Ok (Halt ∷ []) else untils_from job [] words

abbrev pub parts_from : Job → List Part → List Piece → Result (List Part) Complaint
parts_from job done [] = Ok done
parts_from job done (p ∷ ps) = and_then (or_said bad_word (part_of job p.bytes)) (λ part. parts_from job (done ++ part ∷ []) ps)

-- a comma separates as a blank does
abbrev pub spaced : ℕ → ℕ
spaced c = if c == 44 then 32 else c

abbrev pub listed : Text → List Piece
listed list = words_of (record { at = 0; bytes = map spaced list })

abbrev pub parts_read : Job → Option Text → Result (Option (List Part)) Complaint
parts_read job None = Ok None
parts_read job (Some list) = and_then (parts_from job [] (listed list)) (λ parts. Ok (Some parts))

-- ---- what is expected

-- `sum.expect:3:1: error X1: `: the file, the place, the letter of the rule and its number
unfoldable pub place_head : Text → (line col : ℕ) → List ℕ → ℕ → List ℕ
place_head name line col letter number =
    joined (name ∷ codes ":" ∷ decimal line ∷ codes ":" ∷ decimal col ∷ codes ": error " ∷ letter ∷ decimal number ∷ codes ": " ∷ [])

abbrev pub rule_number : LineRule → ℕ
rule_number Form = 1
rule_number _ = 2

-- X1 and X2: a line of an expectation file
abbrev pub bad_line : Text → LineFault → Complaint
bad_line name fault = record { status = 2; begins = place_head name fault.line 1 (codes "X") (rule_number fault.rule) }

-- what follows `expect`, or nothing for any other directive
abbrev pub line_after : List ℕ → Directive → List ℕ
line_after text d = if has_verb Expect d then (piece_of text d.rest).bytes else []

-- the expectations of directives, a line each
abbrev pub lines_after : List ℕ → List Directive → List ℕ
lines_after text directives = flat_map (λ d. line_after text d ++ 10 ∷ []) directives

abbrev pub no_directive : Directive
no_directive = record { verb = None; word = record { at = 0; end = 0 }; rest = record { at = 0; end = 0 } }

-- where a directive of a text begins
abbrev pub place_in : List ℕ → Directive → Place
place_in text d = place_after (take d.word.at text)

-- D4: an expectation among the directives of the file of the job, at its word
abbrev pub bad_expect : File → List Directive → LineFault → Complaint
bad_expect own directives fault =
    let place = place_in own.text (get_or directives (fault.line - 1) no_directive) in
    record { status = 2; begins = place_head own.name place.line place.col (codes "D") 4 }

-- D1
abbrev pub misdirected : File → DirectiveFault → Complaint
misdirected own fault = record { status = 2; begins = own.name ++ message own.text fault }

-- what the lines of directives expect
abbrev pub script_after : Job → File → List Directive → Result Script Complaint
script_after job own directives = or_said (bad_expect own directives) (expected_of job (lines_after own.text directives))

abbrev pub script_unless : Job → File → List Directive → Option DirectiveFault → Result Script Complaint
script_unless job own directives (Some fault) = Err (misdirected own fault)
script_unless job own directives None = script_after job own directives

-- what the directives of the file of the job expect
abbrev pub own_script : Job → File → List Directive → Result Script Complaint
own_script job own directives = script_unless job own directives (broken_in directives)

abbrev pub scripts_from : Job → List Script → List File → Result (List Script) Complaint
scripts_from job done [] = Ok done
scripts_from job done (f ∷ fs) = and_then (or_said (bad_line f.name) (expected_of job f.text)) (λ script. scripts_from job (done ++ script ∷ []) fs)

-- ---- all of it

pub record Reading : Type 0 where
  pub untils : List Until
  pub only : Option (List Part)
  pub scripts : List Script

-- what is read for a job, whose text up to its `end` has these directives, with these files
abbrev pub reading_of : Job → Settings → File → List Directive → List File → Result Reading Complaint
reading_of job s own directives files =
    and_then (untils_read job s.until) (λ untils. and_then (parts_read job s.only) (λ only.
    and_then (own_script job own directives) (λ script. and_then (scripts_from job (script ∷ []) files) (λ scripts.
    Ok (record { untils = untils; only = only; scripts = scripts })))))
