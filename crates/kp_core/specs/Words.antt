-- THE WORDS of a command line of `kpcore`.
use Rattle.std.specs.Prelude.{ℕ, Bool, true, false, ◌||◌, List, [], ◌∷◌, codes, if◌then◌else◌, Option, Some, None, option_map, string_bytes}
use Rattle.std.specs.{List.list_any, Option.option_map_or, Str.bytes_eq}
use Rattle.kp_command_line.specs.Words.{file_in}
use Rattle.kp_core.specs.declared.request.{Form.Form, Request.Request}
use Rattle.kp_core.specs.declared.request.Form.TheVariants as forms
use Rattle.kp_core.specs.declared.request.Request.TheVariants as requests

-- what is asked for: the module of the job of a file, or of standard input, or a table of its registers or wires, or a text of the program
pub data Asked : Type 0 where
  bad_words : Asked
  help : Asked
  version : Asked
  write : Form → Option (List ℕ) → Asked

abbrev pub asked : Request → Asked
asked requests.BadWords = bad_words
asked requests.Help = help
asked requests.Version = version
asked (requests.Core form file) = write form (option_map (λ word. string_bytes word.now) file)

abbrev pub is_help : List ℕ → Bool
is_help word = bytes_eq word (codes "--help") || bytes_eq word (codes "-h")

abbrev pub is_version : List ℕ → Bool
is_version word = bytes_eq word (codes "--version") || bytes_eq word (codes "-V")

-- what a word asks for in place of the module
abbrev pub form_of : List ℕ → Option Form
form_of word = if bytes_eq word (codes "--names") then Some forms.Names
    else (if bytes_eq word (codes "--wires") then Some forms.Wires else (if bytes_eq word (codes "--named") then Some forms.Named
    else (if bytes_eq word (codes "--comments") then Some forms.Comments else None)))

-- at most one word, which is a file
abbrev pub file_of : Form → List (List ℕ) → Asked
file_of form words = option_map_or (λ file. write form file) (file_in words) bad_words

-- another form, if the first word asks for it
abbrev pub of_form : Option Form → List ℕ → List (List ℕ) → Asked
of_form None word words = file_of forms.Module (word ∷ words)
of_form (Some form) word words = file_of form words

abbrev pub table_or_module : List (List ℕ) → Asked
table_or_module [] = file_of forms.Module []
table_or_module (word ∷ words) = of_form (form_of word) word words

-- the words after the name of the program: a word for help counts first, then one for the version
abbrev pub asked_for : List (List ℕ) → Asked
asked_for words = if list_any is_help words then help else (if list_any is_version words then version else table_or_module words)

-- a module or a table reads the source, and nothing else does
abbrev pub reads_input : Asked → Bool
reads_input (write form file) = true
reads_input _ = false
