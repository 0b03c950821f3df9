-- THE WORDS of a command line of `kprun`.
use Rattle.std.specs.Prelude.{ℕ, Bool, true, false, ◌||◌, ◌==◌, nat_le, List, [], ◌∷◌, ◌++◌, map, codes, if◌then◌else◌, Option, Some, None, option_map, option_and_then, String, string_bytes}
use Rattle.std.specs.declared.alloc.Global.{Global}
use Rattle.std.specs.{Borrow.Bor, List.list_any, Option.option_map_or, Str.bytes_eq}
use Rattle.kp_bits.specs.Literals.{number_of}
use Rattle.kp_command_line.specs.Words.{Text, file_in}
use Rattle.kp_runner.specs.declared.request.{Request.Request, Settings.Settings as code}
use Rattle.kp_runner.specs.declared.request.Request.TheVariants as requests

-- How a job is run: the conditions, the greatest number of cycles, what is printed of the state, and the expectation files.
pub record Settings : Type 0 where
  pub until : List Text
  pub limit : ℕ
  pub only : Option Text
  pub quiet : Bool
  pub expect : List Text

-- and the file of the job, or none for standard input
pub data Asked : Type 0 where
  bad_words : Asked
  help : Asked
  version : Asked
  run : Settings → Option Text → Asked

abbrev pub text_of : Bor (String Global) → Text
text_of word = string_bytes word.now

abbrev pub settings_seen : code → Settings
settings_seen s = record { until = map text_of s.until.items; limit = s.limit; only = option_map text_of s.only; quiet = s.quiet; expect = map text_of s.expect.items }

abbrev pub asked : Request → Asked
asked requests.BadWords = bad_words
asked requests.Help = help
asked requests.Version = version
asked (requests.Run settings file) = run (settings_seen settings) (option_map text_of file)

abbrev pub is_help : Text → Bool
is_help word = bytes_eq word (codes "--help") || bytes_eq word (codes "-h")

abbrev pub is_version : Text → Bool
is_version word = bytes_eq word (codes "--version") || bytes_eq word (codes "-V")

abbrev pub first_settings : Settings
first_settings = record { until = []; limit = 10000000; only = None; quiet = false; expect = [] }

-- a number of cycles, up to 1,000,000,000
abbrev pub limit_of : Text → Option ℕ
limit_of word = option_and_then (λ n. if nat_le n 1000000000 then Some n else None) (number_of word)

-- an option with a value
abbrev pub with_option : Settings → Text → Text → Option Settings
with_option s word value =
    if bytes_eq word (codes "--until") then Some (record s { until = s.until ++ value ∷ [] })
    else (if bytes_eq word (codes "--limit") then option_map (λ n. record s { limit = n }) (limit_of value)
    else (if bytes_eq word (codes "--only") then Some (record s { only = Some value })
    else (if bytes_eq word (codes "--expect") then Some (record s { expect = s.expect ++ value ∷ [] }) else None)))

abbrev pub with_input : Settings → List Text → Asked
with_input s words = option_map_or (run s) (file_in words) bad_words

-- what is asked for by these words after options
abbrev pub asked_with : (Settings → List Text → Asked) → Option Settings → List Text → Asked
asked_with more None words = bad_words
asked_with more (Some s) words = more s words

-- the options, each before its value, and at most a file after them
abbrev pub options_from : Settings → List Text → Asked
options_from s [] = with_input s []
options_from s (word ∷ []) = if bytes_eq word (codes "--quiet") then with_input (record s { quiet = true }) [] else with_input s (word ∷ [])
options_from s (word ∷ value ∷ rest) =
    if bytes_eq word (codes "--quiet") then options_from (record s { quiet = true }) (value ∷ rest)
    else asked_with (λ t more. options_from t rest) (with_option s word value) rest

abbrev pub words_asked : List Text → Asked
words_asked [] = bad_words
words_asked (word ∷ rest) = if bytes_eq word (codes "run") then options_from first_settings rest else bad_words

-- a word for help counts first, then one for the version
abbrev pub asked_for : List Text → Asked
asked_for words = if list_any is_help words then help else (if list_any is_version words then version else words_asked words)

-- a run reads the source, and nothing else does
abbrev pub reads_input : Asked → Bool
reads_input (run s file) = true
reads_input _ = false
