-- LABELS: registers, words of files, pipes and results, as they are named: `PC`, `R[3]`, `IR`, `C`.
use Rattle.std.specs.Prelude.{◌≡◌, ℕ, ◌==◌, nat_lt, if◌then◌else◌, List, [], ◌∷◌, length, map, Option, Some, None, Result, Ok, Err, ⊤, option_map}
use Rattle.kp_base.specs.{Lines.IsWithin, Lines.Piece, Lines.piece_of, Lines.words_of, declared.run.Run.Run}
use Rattle.kp_ast.specs.declared.tree.{Job.Job, ResultDecl.ResultDecl}
use Rattle.kp_machine.specs.{Slots.pipes_of, Slots.targets_of, Slots.number_of, Slots.result_named, Words.HasWord, Words.target}
use Rattle.kp_seq.specs.{Computed.HasComputed, declared.computed.Computed.Computed, declared.computed.Computed.TheVariants.Pipe, declared.computed.Computed.TheVariants.Result as ResultOf}
use Rattle.kp_until.specs.Parts.{part_of, single}
use Rattle.kp_until.specs.declared.part.{Part.Part, PartFault.PartFault}
use Rattle.kp_directive.specs.Directives.{run_of}
use Rattle.kp_diagram_labels.specs.declared.label.{Label.Label, Shown.Shown, LabelsRefused.LabelsRefused, LabelsRefused.TheVariants.Word, LabelsRefused.TheVariants.NoMemory}
use Rattle.kp_diagram_labels.specs.declared.label.Shown.TheVariants as shows

-- commas separate labels, as blanks do
abbrev pub unseparated : ℕ → ℕ
unseparated c = if c == 44 then 32 else c

-- the pipe of this number, if there is one
abbrev pub pipe_with : Job → ℕ → Option Computed → Option Computed
pipe_with job p other = if nat_lt p (length (pipes_of job.decls)) then Some (Pipe p) else other

-- the result of this target, if there is one
abbrev pub result_with : Job → ℕ → Option Computed
result_with job t = if nat_lt t (length (targets_of job.decls)) then Some (ResultOf t) else None

abbrev pub result_by : Job → Option ResultDecl → Option Computed
result_by job None = None
result_by job (Some r) = result_with job (number_of (targets_of job.decls) r.target.name)

-- the pipe or the result that a name denotes
abbrev pub computed_named : Job → List ℕ → Option Computed
computed_named job name = pipe_with job (number_of (pipes_of job.decls) name) (result_by job (result_named job.decls name))

-- a single word of the state, or else what an instruction computes
abbrev pub shown_by : Job → List ℕ → Result Part PartFault → Option Shown
shown_by job name (Ok part) = option_map (shows.Word part.target) (single (target job part.target) part.index)
shown_by job name (Err fault) = option_map (λ what. shows.Computed what) (computed_named job name)

abbrev pub label_of : Run → Shown → Label
label_of name shown = record { name = name; shown = shown }

-- THE LABEL that a word names, if it does
abbrev pub label_named : Job → Piece → Option Label
label_named job word = option_map (label_of (run_of word)) (shown_by job word.bytes (part_of job word.bytes))

abbrev pub and_label : Label → Result (List Label) Run → Result (List Label) Run
and_label label (Ok labels) = Ok (label ∷ labels)
and_label label (Err word) = Err word

abbrev pub with_label : Option Label → Run → Result (List Label) Run → Result (List Label) Run
with_label None word labels = Err word
with_label (Some label) word labels = and_label label labels

-- the labels that words name, or the first of them that isn't a label
abbrev pub labels_from : Job → List Piece → Result (List Label) Run
labels_from job [] = Ok []
labels_from job (word ∷ words) = with_label (label_named job word) (run_of word) (labels_from job words)

-- THE LABELS that a run of a text names.
abbrev pub labels_in : Job → List ℕ → Run → Result (List Label) Run
labels_in job text run = labels_from job (words_of (piece_of (map unseparated text) run))

-- those that a text names
abbrev pub labels_of : Job → List ℕ → Result (List Label) Run
labels_of job text = labels_in job text (record { at = 0; end = length text })

-- the job has what is shown
abbrev pub HasShown : Job → Shown → Type 0
HasShown job (shows.Word t a) = HasWord job t a
HasShown job (shows.Computed what) = HasComputed job what

-- its name is within the text, and the job has what it shows
pub record IsLabel (job : Job) (text : List ℕ) (l : Label) : Type 0 where
  pub name : IsWithin text l.name
  pub there : HasShown job l.shown

-- what a call returns that reads labels
abbrev pub Yields : {T : Type 0} → Result T LabelsRefused → (T → List Label) → Result (List Label) Run → Type 0
Yields (Ok t) value found = found ≡ Ok (value t)
Yields (Err (Word word)) value found = found ≡ Err word
Yields (Err NoMemory) value found = ⊤

-- the word that isn't a label is within the text
abbrev pub IsIn : List ℕ → LabelsRefused → Type 0
IsIn text (Word word) = IsWithin text word
IsIn text NoMemory = ⊤
