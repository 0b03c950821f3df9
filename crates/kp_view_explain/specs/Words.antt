-- The words of `explain`.
use Rattle.std.specs.Prelude.{ℕ, Bool, true, false, ◌||◌, List, [], ◌∷◌, codes, if◌then◌else◌, Option, Some, None, is_some, option_and_then, option_map, slice_get, string_bytes}
use Rattle.std.specs.Str.{bytes_eq}
use Rattle.kp_command_line.specs.Words.{Matched, Name, file_in, has_flag, matched_in, source_in}
use Rattle.kp_view_explain.specs.declared.words.{Order.Order, Subject.Subject}
use Rattle.kp_view_explain.specs.declared.words.Subject.TheVariants as subjects

-- what is asked for: what the input is, whether warnings count as errors, and the file, or none for standard input
pub record Asked : Type 0 where
  pub subject : Subject
  pub strict : Bool
  pub file : Option (List ℕ)

abbrev pub order_seen : Order → Asked
order_seen order = record { subject = order.subject; strict = order.strict; file = option_map (λ word. string_bytes word.now) order.file }

-- the command of `kp` whose input is asked about
abbrev pub subject_of : List ℕ → Option Subject
subject_of word =
    if bytes_eq word (codes "read") then Some subjects.Verilog else (if bytes_eq word (codes "watch") then Some subjects.Watched
    else (if bytes_eq word (codes "asm") then Some subjects.Program else (if bytes_eq word (codes "debug") then Some subjects.Debugged else None)))

-- the words that name one, each with at most a file after it
abbrev pub subject_names : List Name
subject_names = (codes "read", 1) ∷ (codes "watch", 1) ∷ (codes "asm", 1) ∷ (codes "debug", 1) ∷ []

abbrev pub subject_in : Option (List ℕ) → Option Subject
subject_in None = Some subjects.Job
subject_in (Some name) = subject_of name

abbrev pub order_matched : Matched → Option Asked
order_matched matched = option_map (λ subject. record { subject = subject; strict = false; file = source_in (slice_get matched.rest 0) }) (subject_in matched.name)

-- such a word, or nothing, and at most a file
abbrev pub with_subject : List (List ℕ) → Option Asked
with_subject words = if has_flag words then None else option_and_then order_matched (matched_in subject_names 1 words)

-- `--werror` and at most a file, or the same without it
abbrev pub with_words : List (List ℕ) → Option Asked
with_words [] = with_subject []
with_words (first ∷ rest) =
    if bytes_eq first (codes "--werror")
    then option_map (λ file. record { subject = subjects.Job; strict = true; file = file }) (file_in rest)
    else with_subject (first ∷ rest)

-- the words after the name of the program
abbrev pub order_of : List (List ℕ) → Option Asked
order_of [] = None
order_of (word ∷ rest) = if bytes_eq word (codes "explain") then with_words rest else None

-- a word that asks for help
abbrev pub is_help : List ℕ → Bool
is_help word = bytes_eq word (codes "--help") || bytes_eq word (codes "-h")

-- the word alone, or after a command of `kp`
abbrev pub help_follows : List (List ℕ) → Bool
help_follows (word ∷ []) = is_help word
help_follows (subject ∷ word ∷ []) = if is_some (subject_of subject) then is_help word else false
help_follows words = false

-- `explain --help`
abbrev pub asks_help : List (List ℕ) → Bool
asks_help [] = false
asks_help (word ∷ rest) = if bytes_eq word (codes "explain") then help_follows rest else false
