-- The words of a command line that may begin with the name of a subcommand.
use Rattle.std.specs.Prelude.{◌==◌, ℕ, Bool, false, List, [], ◌∷◌, codes, map, length, nat_lt, find, if◌then◌else◌, string_bytes, option_map, Option, Some, None}
use Rattle.std.specs.{Borrow.Bor, List.list_any, Str.bytes_eq}
use Rattle.kp_command_line.specs.declared.{Input.Input, Matched.Matched as code}

abbrev pub Text : Type 0
Text = List ℕ

-- the name of a subcommand, and how many words may follow it
abbrev pub Name : Type 0
Name = Text × ℕ

abbrev pub name_seen : Bor Text × ℕ → Name
name_seen name = (name.0.now, name.1)

abbrev pub begins_with_dash : Text → Bool
begins_with_dash [] = false
begins_with_dash (c ∷ cs) = c == 45

-- a flag: `-` with more after it
abbrev pub is_flag : Text → Bool
is_flag (c ∷ next ∷ rest) = c == 45
is_flag _ = false

abbrev pub has_flag : List Text → Bool
has_flag words = list_any is_flag words

-- The name of a subcommand and the words after it; or no name, and all words.
pub record Matched : Type 0 where
  pub name : Option Text
  pub rest : List Text

abbrev pub matched_seen : code → Matched
matched_seen matched = record { name = option_map (λ name. name.now) matched.name; rest = map string_bytes matched.rest.now }

abbrev pub file_seen : Input → Option Text
file_seen input = option_map (λ name. string_bytes name.now) input.file

-- the file that a word names, or none for standard input, which is `-` or no word
abbrev pub source_in : Option Text → Option Text
source_in None = None
source_in (Some word) = if bytes_eq word (codes "-") then None else Some word

-- the input of a word, which is no flag: `Some None` is standard input
abbrev pub input_named : Text → Option (Option Text)
input_named word = if is_flag word then None else Some (source_in (Some word))

-- that of at most one word
abbrev pub file_in : List Text → Option (Option Text)
file_in [] = Some None
file_in (name ∷ []) = input_named name
file_in (name ∷ other ∷ rest) = None

-- how many words may follow this word, if it is the name of a subcommand
abbrev pub most_after : List Name → Text → Option ℕ
most_after names word = option_map (λ name. name.1) (find (λ name. bytes_eq name.0 word) names)

-- the name with these words, if there aren't more than this
abbrev pub matched_as : Option Text → ℕ → List Text → Option Matched
matched_as name most rest = if nat_lt most (length rest) then None else Some (record { name = name; rest = rest })

abbrev pub matched_first : Option ℕ → ℕ → Text → List Text → Option Matched
matched_first (Some after) most word rest = matched_as (Some word) after rest
matched_first None most word rest = matched_as None most (word ∷ rest)

-- the words, if no more follow a name than may; without a name there may be `most`
abbrev pub matched_in : List Name → ℕ → List Text → Option Matched
matched_in names most [] = matched_as None most []
matched_in names most (word ∷ rest) = matched_first (most_after names word) most word rest
