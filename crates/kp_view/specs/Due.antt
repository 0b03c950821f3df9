-- What is specified: a status and a text for what is asked and the bytes of the source. The text of status 0 goes to standard output, and any other to
-- standard error.
use Rattle.std.specs.Prelude.{◌≡◌, ◌≢◌, ◌≤◌, ◌⊎◌, Bool, true, false, ℕ, zero, suc, ◌+◌, List, [], ◌++◌, length, Ok, Err, Option, Some, None, Result}
use Rattle.std.specs.Io.KnownBytes.{Consumes, Appends, IsAtEnd}
use Rattle.kp_base.specs.{Bytes.AppendsPart, declared.refusal.Refusal.Refusal}
use Rattle.kp_ast.specs.declared.tree.Job.{Job}
use Rattle.kp_frontend.specs.Judging.{Judges}
use Rattle.kp_view_words.specs.Words.{Asked, Order, Run, Task, bad_words, help, version, show, diagram, window, labelled, svg, page, paths, paths_svg, stalls, depth, label_for, names_for}
use Rattle.kp_view_words.specs.declared.task.{Memories.Memories, Memories.TheVariants.Inside, Memories.TheVariants.Outside}
use Rattle.kp_view_words.specs.Texts.{help_text, usage_text, version_text}
use Rattle.kp_pipeline.specs.Rows.{Row}
use Rattle.kp_diagram_text.specs.{Charts.are_names, Figures.Figure, Labelled.labelled_text, Text.diagram_text, Text.window_text}
use Rattle.kp_diagram_labels.specs.{Labels.labels_of, Texts.heading, Texts.label_text, declared.label.Label.Label}
use Rattle.kp_listing.specs.Listings.{entries_of}
use Rattle.kp_diagram_svg.specs.Picture.{picture}
use Rattle.kp_diagram_run.specs.{Figures.job_figure, Figures.job_rows, FigureClaims.ShowsRun, Windows.job_window}
use Rattle.kp_stalls_run.specs.{Claims.ShowCauses, Runs.job_stalls}
use Rattle.kp_machine.specs.Machine.{inputs_from, pipe_of}
use Rattle.kp_page.specs.{Claims.listed_last, States.states_text, Page.page as page_text}
use Rattle.kp_paths.specs.{Claims.ArePaths, Text.paths_text, ArrowClaims.ShowsCells, Picture.paths_svg_text}
use Rattle.kp_stalls_text.specs.{Labels.labels_from, Text.stalls_text}
use Rattle.kp_lex.specs.{Text.HasOutcome, declared.token.Lexed.Lexed}
use Rattle.kp_base.specs.declared.run.Run.{Run as Bytes}
use Rattle.kp_directive.specs.{Messages.bytes_in, Messages.message, declared.directive.DirectiveFault.DirectiveFault}
use Rattle.kp_view.specs.{Depths.IsDepthText, Listed.Listed, Listed.given_by, Listed.listed_in, Texts.file_text, Texts.label_wrong, Texts.names_text, Texts.refusal_text}

-- exactly this status and this text
abbrev pub Says : ℕ → List ℕ → ℕ → List ℕ → Type 0
Says s t status text = (status ≡ s) × (text ≡ t)

-- the figure of a job that is drawn, and the rows: of the run of its pipelined machine over the number of cycles that is asked for
abbrev pub figure_drawn : Run → Job → Figure
figure_drawn run job = job_figure run.names run.count job

abbrev pub rows_drawn : Run → Job → List Row
rows_drawn run job = job_rows run.count job

-- whether files are in the circuit
abbrev pub are_inside : Memories → Bool
are_inside Inside = true
are_inside Outside = false

-- THE TEXT that a word writes about the job of an input. That of `depth` is of some netlist of the job, and any other is determined by the job.
abbrev pub IsText : Order → List ℕ → Job → List ℕ → Type 0
IsText (diagram run) input job text = text ≡ diagram_text (figure_drawn run job)
IsText (window from run) input job text = text ≡ window_text from (job_window run.names from run.count job)
IsText (labelled from run beside) input job text =
    (labels : List Label) × (labels_of job beside.label ≡ Ok labels) × (text ≡ labelled_text (heading job beside.label labels (entries_of beside.listing))
    (label_text job beside.label labels (entries_of beside.listing) (from + run.count)) from (job_window run.names from run.count job))
IsText (svg run) input job text = text ≡ picture (figure_drawn run job) (rows_drawn run job)
IsText (page run) input job text =
    text ≡ page_text (figure_drawn run job) (rows_drawn run job) input (paths_text [] job) (states_text job run.count)
IsText (paths names) input job text = text ≡ paths_text names job
IsText (paths_svg names) input job text = text ≡ paths_svg_text names job
IsText (stalls run) input job text = text ≡ stalls_text run.names (labels_from job.blocks) (job_stalls run.count job)
IsText (depth memories) input job text = IsDepthText job (are_inside memories) text

-- What the states that a page records of n cycles and the end after them show: the value of a word in a cycle is the one that was listed last, or 0 if
-- none was.
abbrev pub ShowsStates : Job → ℕ → Type 0
ShowsStates job n = (T t a : ℕ) → listed_last (pipe_of job (inputs_from job 0 n)).visible T t a ≡ (pipe_of job (inputs_from job 0 n)).visible T t a

-- What that text shows. Of a diagram: the fetches, cells, marks and the account in it are those of the run, and the laws of the diagram hold of them.
-- The figure of a window is a part of that of the run up to its last cycle (`job_window`), of which this holds. A label is the value that the sequential machine
-- has before the instruction of a line that retires, or in it (`label_text`), and the text of the listing is that of the first label.
-- Of the table of paths: its cells say where the reads take their values from, in each state of each run. The arrows of its picture are these cells. A page
-- has a diagram and the table, and shows the states. What the text of `depth` shows is said by `IsDepthText`.
abbrev pub IsShown : Order → Job → Type 0
IsShown (diagram run) job = ShowsRun job run.count (figure_drawn run job)
IsShown (window from run) job = ShowsRun job (from + run.count) (job_figure run.names (from + run.count) job)
IsShown (labelled from run beside) job = ShowsRun job (from + run.count) (job_figure run.names (from + run.count) job)
IsShown (svg run) job = ShowsRun job run.count (figure_drawn run job)
IsShown (page run) job = ShowsRun job run.count (figure_drawn run job) × ArePaths job × ShowsStates job run.count
IsShown (paths names) job = ArePaths job
IsShown (paths_svg names) job = ArePaths job × ShowsCells job
IsShown (stalls run) job = ShowCauses job run.count
IsShown (depth memories) job = Unit {0}

abbrev pub Draws : Order → List ℕ → Job → ℕ → List ℕ → Type 0
Draws order input job status text = (status ≡ 0) × IsText order input job text × IsShown order job

-- the names that are given are names for the stages of the job
abbrev pub names_fit : Order → Job → Bool
names_fit order job = are_names (names_for order) job.stages.value

abbrev pub wrong_names_text : Order → Job → List ℕ
wrong_names_text order job = names_text (length (names_for order)) job.stages.value

-- what is said of a word that isn't a label
abbrev pub label_complaint : List ℕ → Result (List Label) Bytes → Option (List ℕ)
label_complaint text (Ok labels) = None
label_complaint text (Err word) = Some (label_wrong (bytes_in text word))

abbrev pub complaint_by : Bool → Order → Job → Option (List ℕ)
complaint_by true order job = label_complaint (label_for order) (labels_of job (label_for order))
complaint_by false order job = Some (wrong_names_text order job)

-- what is said of names that aren't names for the stages of the job, and else of labels that it doesn't have
abbrev pub complaint_for : Order → Job → Option (List ℕ)
complaint_for order job = complaint_by (names_fit order job) order job

-- the outcome for a job, where there is or isn't something to be said
abbrev pub DueOfNames : Option (List ℕ) → Order → List ℕ → Job → ℕ → List ℕ → Type 0
DueOfNames None order input job = Draws order input job
DueOfNames (Some said) order input job = Says 1 said

abbrev pub DueOfOrder : Order → List ℕ → Job → ℕ → List ℕ → Type 0
DueOfOrder order input job = DueOfNames (complaint_for order job) order input job

-- the message on a directive that violates a rule, after the name of the file
abbrev pub directive_text : Option (List ℕ) → List ℕ → DirectiveFault → List ℕ
directive_text file input fault = file_text file ++ message input fault

-- the outcome for what the directives of the input give, or for the rule that they violate; the command line wins
abbrev pub DueOfListed : Task → List ℕ → Job → Result Listed DirectiveFault → ℕ → List ℕ → Type 0
DueOfListed task input job (Ok listed) = DueOfOrder (given_by listed task.order) input job
DueOfListed task input job (Err fault) = Says 2 (directive_text task.file input fault)

-- what the directives before the `end` of the input give
abbrev pub Lists : List ℕ → Job → Result Listed DirectiveFault → Type 0
Lists input job listed = (lexed : Lexed) × HasOutcome input (Ok lexed) × (listed_in job input lexed.rest ≡ listed)

abbrev pub DueOfJob : Task → List ℕ → Job → ℕ → List ℕ → Type 0
DueOfJob task input job status text =
    (listed : Result Listed DirectiveFault) × Lists input job listed × DueOfListed task input job listed status text

-- the outcome for a verdict on the input
abbrev pub DueOfVerdict : Task → List ℕ → Result Job Refusal → ℕ → List ℕ → Type 0
DueOfVerdict task input (Ok job) = DueOfJob task input job
DueOfVerdict task input (Err refusal) = Says 2 (refusal_text task.file refusal)

-- the outcome for what is asked, on an input
abbrev pub DueFor : Asked → List ℕ → ℕ → List ℕ → Type 0
DueFor (bad_words topic) input status text = Says 1 (usage_text topic) status text
DueFor (help topic) input status text = Says 0 (help_text topic) status text
DueFor version input status text = Says 0 version_text status text
DueFor (show task) input status text = (verdict : Result Job Refusal) × Judges input verdict × DueOfVerdict task input verdict status text

-- what is asked about a job reads the source, and nothing else does
abbrev pub reads_input : Asked → Bool
reads_input (bad_words topic) = false
reads_input (help topic) = false
reads_input version = false
reads_input (show task) = true

-- a source was read as far as is specified: not at all; or to its end, where an input of at most 16,777,216 bytes ends; or one byte further
abbrev pub IsWhole : Bool → List ℕ → Option (List ℕ) → Type 0
IsWhole false taken left = taken ≡ []
IsWhole true taken left = (IsAtEnd left × (length taken ≤ 16777216)) ⊎ (length taken ≡ 16777217)

-- the status and the text are those specified for the bytes that were read from the source
pub record IsDue (asked : Asked) (old new : Option (List ℕ)) (status : ℕ) (text : List ℕ) : Type 0 where
  pub taken : List ℕ
  pub consumed : Consumes old new taken
  pub whole : IsWhole (reads_input asked) taken new
  pub due : DueFor asked taken status text

-- a status of a specified outcome: not that of a read fault (3), a write fault (4) or of out of memory (5)
abbrev pub IsFinal : ℕ → Type 0
IsFinal status = (status ≢ 3) × (status ≢ 4) × (status ≢ 5)

module _ {S T : Type 0} (held : S → Option (List ℕ)) (held_err : T → Option (List ℕ)) where
  -- the complete text was appended to standard output for status 0, and to standard error for any other; nothing was written to the other one
  abbrev pub Prints : (old new : S) (old_err new_err : T) → ℕ → List ℕ → Type 0
  Prints old new old_err new_err zero text = Appends (held old) (held new) text × (new_err ≡ old_err)
  Prints old new old_err new_err (suc status) text = (new ≡ old) × Appends (held_err old_err) (held_err new_err) text

  -- the same of a prefix of the text
  abbrev pub PrintsPart : (old new : S) (old_err new_err : T) → ℕ → List ℕ → Type 0
  PrintsPart old new old_err new_err zero text = AppendsPart (held old) (held new) text × (new_err ≡ old_err)
  PrintsPart old new old_err new_err (suc status) text = (new ≡ old) × AppendsPart (held_err old_err) (held_err new_err) text

  -- the status is the specified one, and the complete specified text was printed
  abbrev pub Completes : Asked → (left left_after : Option (List ℕ)) (old new : S) (old_err new_err : T) → ℕ → Type 0
  Completes asked left left_after old new old_err new_err status =
      (text : List ℕ) × IsDue asked left left_after status text × Prints old new old_err new_err status text

  -- a prefix of the specified text was printed
  abbrev pub Begins : Asked → (left left_after : Option (List ℕ)) (old new : S) (old_err new_err : T) → Type 0
  Begins asked left left_after old new old_err new_err =
      (status : ℕ) × (text : List ℕ) × IsDue asked left left_after status text × PrintsPart old new old_err new_err status text

-- the fact holds of the bytes that were read from the source and those that were appended to a sink
abbrev pub Between : (left left_after held held_after : Option (List ℕ)) → (List ℕ → List ℕ → Type 0) → Type 0
Between left left_after held held_after Fact =
    (input : List ℕ) × (text : List ℕ) × Consumes left left_after input × Appends held held_after text × Fact input text

-- what is asked for, with the names and the labels that the directives give where the command line gives none
abbrev pub IsNamed : Task → List ℕ → Job → Order → Type 0
IsNamed task input job order = (listed : Listed) × Lists input job (Ok listed) × (order ≡ given_by listed task.order)

-- THE HEADLINE. The input is a job that violates no rule, for whose stages the names are, and the text shows what was asked: the run of its pipelined
-- machine, with the instructions in the full stages, the marks with their reasons, the instructions that retire in order, and each cycle counted under
-- its cause; or the paths of its reads, with the stages that have a value, and those that never have one; or all of this, with the input and the states,
-- or the longest paths of a netlist that shows its pipelined machine.
abbrev pub IsDrawn : Task → List ℕ → List ℕ → Type 0
IsDrawn task input text =
    (job : Job) × Judges input (Ok job) × (order : Order) × IsNamed task input job order × (complaint_for order job ≡ None)
    × IsText order input job text × IsShown order job

-- the text names the first rule that the input violates, or that its directives violate
abbrev pub IsRuled : Task → List ℕ → List ℕ → Type 0
IsRuled task input text = (refusal : Refusal) × Judges input (Err refusal) × (text ≡ refusal_text task.file refusal)

abbrev pub IsMisdirected : Task → List ℕ → List ℕ → Type 0
IsMisdirected task input text =
    (job : Job) × Judges input (Ok job) × (fault : DirectiveFault) × Lists input job (Err fault) × (text ≡ directive_text task.file input fault)

abbrev pub IsRefusal : Task → List ℕ → List ℕ → Type 0
IsRefusal task input text = IsRuled task input text ⊎ IsMisdirected task input text

-- The words aren't accepted, and the text says how the program is called; or the input is a job that violates no rule, the names aren't names for
-- its stages, and the text says how many there are of both; or a label isn't one, and the text says which.
abbrev pub IsUnaccepted : Asked → List ℕ → List ℕ → Type 0
IsUnaccepted (bad_words topic) input text = text ≡ usage_text topic
IsUnaccepted (show task) input text =
    (job : Job) × Judges input (Ok job) × (order : Order) × IsNamed task input job order × (complaint_for order job ≡ Some text)
IsUnaccepted _ input text = ⊥

-- the input violates no rule, or what was asked isn't about an input
abbrev pub IsUnrefused : List ℕ → List ℕ → Type 0
IsUnrefused input text = (refusal : Refusal) → Judges input (Err refusal) → ⊥
