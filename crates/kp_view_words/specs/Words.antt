-- What the words of a command line ask for.
use Rattle.std.specs.Prelude.{◌==◌, ◌||◌, ◌&&◌, ◌-◌, ◌+◌, not, ℕ, Bool, false, List, [], ◌∷◌, length, drop, take, leb, ltb, nat_le, nat_lt, slice_get, if◌then◌else◌, codes, Option, Some, None, option_and_then, option_map}
use Rattle.std.specs.{List.find, List.list_all, List.list_any, Option.option_map_or, Str.bytes_eq}
use Rattle.kp_base.specs.Characters.{is_digit, is_word, run_length}
use Rattle.kp_bits.specs.Literals.{number_of}
use Rattle.kp_command_line.specs.Words.{Text, has_flag, input_named, is_flag, source_in}
use Rattle.kp_view_words.specs.declared.{task.Memories.Memories, words.Topic.Topic, words.Word.Word}
use Rattle.kp_view_words.specs.declared.task.Memories.TheVariants.{Inside, Outside}
use Rattle.kp_view_words.specs.declared.words.Topic.TheVariants as topics
use Rattle.kp_view_words.specs.declared.words.Word.TheVariants as words

-- A run that is drawn or listed: its number of cycles, and the names of the stages.
pub record Run : Type 0 where
  pub count : ℕ
  pub names : List Text

-- What is beside the lines: the text that names labels, the file of a listing, and what this file has: nothing until it is read.
pub record Beside : Type 0 where
  pub label : Text
  pub file : Option Text
  pub listing : Text

abbrev pub beside : Text → Beside
beside label = record { label = label; file = None; listing = [] }

-- What is to be written about a job: a word, with what it takes.
pub data Order : Type 0 where
  diagram : Run → Order
  -- a diagram from this cycle on
  window : ℕ → Run → Order
  -- the same with labels beside the lines, and a listing
  labelled : ℕ → Run → Beside → Order
  svg : Run → Order
  page : Run → Order
  -- with names of the stages
  paths : List Text → Order
  paths_svg : List Text → Order
  stalls : Run → Order
  depth : Memories → Order

-- What is to be shown of a job, and its file, or none for standard input.
pub record Task : Type 0 where
  pub order : Order
  pub file : Option Text

pub data Asked : Type 0 where
  bad_words : Topic → Asked
  help : Topic → Asked
  version : Asked
  show : Task → Asked

-- the names of the stages that are given
abbrev pub names_for : Order → List Text
names_for (diagram run) = run.names
names_for (window from run) = run.names
names_for (labelled from run beside) = run.names
names_for (svg run) = run.names
names_for (page run) = run.names
names_for (paths names) = names
names_for (paths_svg names) = names
names_for (stalls run) = run.names
names_for (depth memories) = []

-- the same with these names of the stages, where none are given
abbrev pub names_or : List Text → List Text → List Text
names_or listed names = if length names == 0 then listed else names

abbrev pub run_named : List Text → Run → Run
run_named listed run = record { count = run.count; names = names_or listed run.names }

abbrev pub named : List Text → Order → Order
named listed (diagram run) = diagram (run_named listed run)
named listed (window from run) = window from (run_named listed run)
named listed (labelled from run beside) = labelled from (run_named listed run) beside
named listed (svg run) = svg (run_named listed run)
named listed (page run) = page (run_named listed run)
named listed (paths names) = paths (names_or listed names)
named listed (paths_svg names) = paths_svg (names_or listed names)
named listed (stalls run) = stalls (run_named listed run)
named listed (depth memories) = depth memories

-- the text that names the labels
abbrev pub label_for : Order → Text
label_for (labelled from run beside) = beside.label
label_for _ = []

-- the same with these labels, where it is a diagram of some cycles without any
abbrev pub run_labelled : Text → Run → Order
run_labelled label run = if run.count == 0 then diagram run else labelled 0 run (beside label)

abbrev pub with_label : Text → Order → Order
with_label label (diagram run) = run_labelled label run
with_label label (window from run) = labelled from run (beside label)
with_label label order = order

abbrev pub label_added : Text → Order → Order
label_added label order = if length label == 0 then order else with_label label order

-- the file of the listing
abbrev pub listing_for : Order → Option Text
listing_for (labelled from run beside) = beside.file
listing_for _ = None

-- the same with this listing, which is still to be read
abbrev pub listing_added : Option Text → Order → Order
listing_added file (labelled from run beside) = labelled from run (record { label = beside.label; file = file; listing = beside.listing })
listing_added file order = order

-- the same with what its listing has
abbrev pub given_in : Text → Order → Order
given_in listing (labelled from run beside) = labelled from run (record { label = beside.label; file = beside.file; listing = listing })
given_in listing order = order

abbrev pub listing_asked : Asked → Option Text
listing_asked (show task) = listing_for task.order
listing_asked _ = None

abbrev pub listing_given : Text → Asked → Asked
listing_given listing (show task) = show (record { order = given_in listing task.order; file = task.file })
listing_given listing asked = asked

-- the word of this name
abbrev pub word_named : Text → Option Word
word_named name =
    if bytes_eq name (codes "diagram") then Some words.Diagram
    else (if bytes_eq name (codes "svg") then Some words.Svg
    else (if bytes_eq name (codes "page") then Some words.Page
    else (if bytes_eq name (codes "paths") then Some words.Paths
    else (if bytes_eq name (codes "stalls") then Some words.Stalls
    else (if bytes_eq name (codes "depth") then Some words.Depth
    else (if bytes_eq name (codes "same") then Some words.Same else None))))))

-- the topic of a name: its word, or the program
abbrev pub topic_named : Text → Topic
topic_named name = option_map_or (λ word. topics.Of word) (word_named name) topics.Program

abbrev pub is_help_word : Text → Bool
is_help_word word = bytes_eq word (codes "help")

abbrev pub is_help_flag : Text → Bool
is_help_flag word = bytes_eq word (codes "--help") || bytes_eq word (codes "-h")

abbrev pub is_version_flag : Text → Bool
is_version_flag word = bytes_eq word (codes "--version") || bytes_eq word (codes "-V")

-- help is about the first word, or about the second after `help`
abbrev pub help_place : List Text → ℕ
help_place all = if option_map_or is_help_word (slice_get all 0) false then 1 else 0

abbrev pub topic_of : List Text → Topic
topic_of all = option_map_or topic_named (slice_get all (help_place all)) topics.Program

abbrev pub asks_help : List Text → Bool
asks_help all = option_map_or is_help_word (slice_get all 0) false || list_any is_help_flag all

-- the number that 1 to 20 decimal digits denote, with or without leading zeros, up to the greatest one
unfoldable pub count_of : ℕ → Text → Option ℕ
count_of most word =
    if nat_le (length word) 20
    then option_and_then (λ number. if nat_le number most then Some number else None) (number_of word)
    else None

-- the name of a stage: 1 to 8 letters, digits or `_`
abbrev pub is_name : Text → Bool
is_name word = ltb 0 (length word) && leb (length word) 8 && list_all is_word word

-- a word with another character
abbrev pub is_path : Text → Bool
is_path word = list_any (λ byte. not (is_word byte)) word

-- A single word after N is a file; of several, the last one is a file if it has another character than letters, digits and `_`.
abbrev pub is_file_after : ℕ → Text → Bool
is_file_after names last = (names == 0) || is_path last

abbrev pub file_in : List Text → Option Text
file_in rest =
    option_and_then (λ last. if is_file_after (length rest - 1) last then Some last else None) (slice_get rest (length rest - 1))

-- the words before the file, or all of them
abbrev pub names_in : List Text → List Text
names_in rest = option_map_or (λ file. take (length rest - 1) rest) (file_in rest) rest

-- NAMES of the stages, and a file
pub record Named : Type 0 where
  pub names : List Text
  pub file : Option Text

abbrev pub named_in : List Text → Option Named
named_in rest = if list_all is_name (names_in rest) then Some (record { names = names_in rest; file = file_in rest }) else None

-- A RUN, and a file: a number of at most 1,000 cycles, and then names of the stages and a file.
pub record RunAsked : Type 0 where
  pub run : Run
  pub file : Option Text

abbrev pub run_by : ℕ → Named → RunAsked
run_by count named = record { run = record { count = count; names = named.names }; file = named.file }

abbrev pub run_with : ℕ → List Text → Option RunAsked
run_with count rest = option_map (run_by count) (named_in rest)

abbrev pub run_in : List Text → Option RunAsked
run_in [] = None
run_in (number ∷ rest) = option_and_then (λ count. run_with count rest) (count_of 1000 number)

-- THE CYCLES OF A WINDOW: the first of them, and how many there are.
pub record Span : Type 0 where
  pub from : ℕ
  pub count : ℕ

-- from a cycle to another, of at most 1,000, which both belong to it
abbrev pub span_between : ℕ → ℕ → Option Span
span_between from to = if nat_le from to && nat_lt (to - from) 1000 then Some (record { from = from; count = to - from + 1 }) else None

-- `..` and the number of the last cycle, after that of the first
abbrev pub span_after : ℕ → Text → Option Span
span_after from (a ∷ b ∷ last) = if a == 46 && b == 46 then option_and_then (λ to. span_between from to) (count_of 1000000000 last) else None
span_after from _ = None

-- `5000..5040`: numbers of at most 1,000,000,000
abbrev pub span_of : Text → Option Span
span_of word =
    option_and_then (λ from. span_after from (drop (run_length is_digit word) word)) (count_of 1000000000 (take (run_length is_digit word) word))

-- a run of a window; one from cycle 0 on is that of a number of cycles
abbrev pub from_cycle : ℕ → Run → Order
from_cycle from run = if from == 0 then diagram run else window from run

abbrev pub diagram_of : ℕ → RunAsked → Task
diagram_of from asked = record { order = from_cycle from asked.run; file = asked.file }

abbrev pub diagram_by : Option ℕ → Text → List Text → Option Task
diagram_by (Some count) word rest = option_map (diagram_of 0) (run_with count rest)
diagram_by None word rest = option_and_then (λ span. option_map (diagram_of span.from) (run_with span.count rest)) (span_of word)

-- the diagram of a number of at most 1,000 cycles, or of a window, and then names of the stages and a file
abbrev pub diagram_with : List Text → Option Task
diagram_with [] = None
diagram_with (word ∷ rest) = diagram_by (count_of 1000 word) word rest

-- what is to be written, with at most a file after it
abbrev pub with_file : Order → List Text → Option Task
with_file order rest = if nat_lt 1 (length rest) then None else Some (record { order = order; file = slice_get rest 0 })

-- the stalls of a job: a number of at most 100,000 cycles, and then names of the stages and a file
abbrev pub stalls_of : RunAsked → Task
stalls_of asked = record { order = stalls asked.run; file = asked.file }

abbrev pub stalls_with : List Text → Option Task
stalls_with [] = None
stalls_with (number ∷ rest) = option_and_then (λ count. option_map stalls_of (run_with count rest)) (count_of 100000 number)

-- the paths of a job, as a table or as a picture: names of the stages and a file
abbrev pub paths_of : Named → Task
paths_of named = record { order = paths named.names; file = named.file }

abbrev pub picture_of : Named → Task
picture_of named = record { order = paths_svg named.names; file = named.file }

abbrev pub picture_with : List Text → Option Task
picture_with rest = option_map picture_of (named_in rest)

-- what a word asks for, with these words after it: `same` nothing about a job alone
abbrev pub task_with : Word → List Text → Option Task
task_with words.Diagram rest = diagram_with rest
task_with words.Svg rest = option_map (λ asked. record { order = svg asked.run; file = asked.file }) (run_in rest)
task_with words.Page rest = option_map (λ asked. record { order = page asked.run; file = asked.file }) (run_in rest)
task_with words.Paths rest = option_map paths_of (named_in rest)
task_with words.Stalls rest = stalls_with rest
task_with words.Depth rest = with_file (depth Inside) rest
task_with words.Same rest = None

-- the task of an accepted list: a word, and at most 14 further words
abbrev pub task_named : List Text → Option Task
task_named [] = None
task_named (name ∷ rest) = if nat_lt 14 (length rest) then None else option_and_then (λ word. task_with word rest) (word_named name)

-- THE FLAGS of words: `paths --svg`, with names of the stages and a file after it, and `depth --files 0`, with at most a file.
abbrev pub asks_picture : Text → Text → Bool
asks_picture word flag = bytes_eq word (codes "paths") && bytes_eq flag (codes "--svg")

abbrev pub asks_files : Text → Text → Bool
asks_files word flag = bytes_eq word (codes "depth") && bytes_eq flag (codes "--files")

abbrev pub depth_with : List Text → Option Task
depth_with [] = None
depth_with (number ∷ files) = if bytes_eq number (codes "0") then with_file (depth Outside) files else None

abbrev pub with_flag : Text → List Text → Option Task
with_flag word [] = None
with_flag word (flag ∷ files) =
    if has_flag files then None
    else (if asks_picture word flag then picture_with files
    else (if asks_files word flag then depth_with files else None))

-- A DIAGRAM WITH LABELS: `--label` and a word that names the labels, of at most 16,777,216 bytes, and maybe `--listing` and a file, are between the words of a
-- diagram and a file, or are the last words.
abbrev pub asks_label : Text → Text → Bool
asks_label flag label = bytes_eq flag (codes "--label") && (not (is_flag label) && nat_le (length label) 16777216)

-- a file, where there is none yet
abbrev pub file_added : Order → List Text → Option Text → Option Task
file_added order [] file = Some (record { order = order; file = file })
file_added order (word ∷ []) None = Some (record { order = order; file = Some word })
file_added order _ _ = None

abbrev pub labelled_after : Text → Option Text → List Text → Task → Option Task
labelled_after label listing files task = file_added (listing_added listing (label_added label task.order)) files task.file

abbrev pub labelled_by : List Text → Text → Text → Option Text → List Text → Option Task
labelled_by before flag label listing files =
    if has_flag files then None
    else (if asks_label flag label then option_and_then (labelled_after label listing files) (diagram_with before) else None)

-- `--listing` and a file, or none
abbrev pub asks_listing : Text → Text → Bool
asks_listing flag file = bytes_eq flag (codes "--listing") && not (is_flag file)

abbrev pub listed_by : List Text → Text → Text → List Text → Option Task
listed_by before flag label (word ∷ file ∷ files) =
    if asks_listing word file then labelled_by before flag label (Some file) files else labelled_by before flag label None (word ∷ file ∷ files)
listed_by before flag label files = labelled_by before flag label None files

abbrev pub labelled_with : List Text → List Text → Option Task
labelled_with before (flag ∷ label ∷ files) = listed_by before flag label files
labelled_with before _ = None

-- how many words there are before the first that begins with `-`
abbrev pub undashed : List Text → ℕ
undashed [] = 0
undashed (word ∷ rest) = if is_flag word then 0 else 1 + undashed rest

abbrev pub labelled_task : List Text → Option Task
labelled_task rest = labelled_with (take (undashed rest) rest) (drop (undashed rest) rest)

abbrev pub asks_diagram : Text → Bool
asks_diagram word = bytes_eq word (codes "diagram")

abbrev pub flagged_task : List Text → Option Task
flagged_task [] = None
flagged_task (word ∷ rest) = if asks_diagram word then labelled_task rest else with_flag word rest

abbrev pub task_of : List Text → Option Task
task_of all = if has_flag all then flagged_task all else task_named all

-- what is asked for; the file `-` is standard input
abbrev pub asked_or : Topic → Option Task → Asked
asked_or topic None = bad_words topic
asked_or topic (Some task) = show (record task { file = source_in task.file })

abbrev pub asked_for : List Text → Asked
asked_for all =
    if asks_help all then help (topic_of all)
    else (if list_any is_version_flag all then version
    else asked_or (topic_of all) (task_of all))

-- whether names of stages follow the word and its N
abbrev pub takes_names : Text → Bool
takes_names word = bytes_eq word (codes "diagram") || (bytes_eq word (codes "svg") || (bytes_eq word (codes "page") || bytes_eq word (codes "stalls")))

-- the first word in the place of such a name that can't be one
abbrev pub wrong_name : List Text → Option Text
wrong_name (word ∷ number ∷ rest) = if takes_names word then find (λ name. not (is_name name)) (names_in rest) else None
wrong_name _ = None

-- THE TWO INPUTS of `same`; none is standard input.
pub record Pair : Type 0 where
  pub first : Option Text
  pub second : Option Text

-- at most one of them is standard input
abbrev pub pair_with : Option Text → Option Text → Option Pair
pair_with None None = None
pair_with first second = Some (record { first = first; second = second })

abbrev pub pair_of : List Text → Option Pair
pair_of (word ∷ first ∷ second ∷ []) =
    if bytes_eq word (codes "same")
    then option_and_then (λ one. option_and_then (λ other. pair_with one other) (input_named second)) (input_named first)
    else None
pair_of _ = None
