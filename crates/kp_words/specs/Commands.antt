-- The lists of arguments that are accepted.
use Rattle.std.specs.Prelude.{◌||◌, ℕ, Bool, true, false, List, [], ◌∷◌, length, nat_le, if◌then◌else◌, codes, Option, Some, None, option_and_then}
use Rattle.std.specs.Str.{bytes_eq}
use Rattle.kp_bits.specs.Literals.{number_of}
use Rattle.kp_command_line.specs.Words.{begins_with_dash}
use Rattle.kp_words.specs.declared.commands.Command.{Command}
use Rattle.kp_words.specs.declared.commands.Command.TheVariants.{OnJob, Assemble, Read, Watch, Compare, Debug, Generate}
use Rattle.kp_words.specs.declared.commands.JobCommand.TheVariants.{Seq, Check, Sim, Vcd, Timing, Pipe}

abbrev pub at_most : ℕ → ℕ → Option ℕ
at_most most number = if nat_le number most then Some number else None

-- the number that 1 to 20 decimal digits denote, with or without leading zeros, up to 2^64 - 1
unfoldable pub seed_of : List ℕ → Option ℕ
seed_of word = if nat_le (length word) 20 then number_of word else None

-- the same, up to 100,000
unfoldable pub count_of : List ℕ → Option ℕ
count_of word = option_and_then (at_most 100000) (seed_of word)

-- the command with this name, a seed and a count, if both are present
abbrev pub seeded_command : List ℕ → Option ℕ → Option ℕ → Option Command
seeded_command name (Some seed) (Some count) = if bytes_eq name (codes "gen") then Some (Generate seed count) else None
seeded_command name _ _ = None

-- the command with this name and a count
abbrev pub counted_command : List ℕ → ℕ → Option Command
counted_command name count =
    if bytes_eq name (codes "seq") then Some (OnJob (Seq count))
    else (if bytes_eq name (codes "sim") then Some (OnJob (Sim count))
    else (if bytes_eq name (codes "vcd") then Some (OnJob (Vcd count))
    else (if bytes_eq name (codes "timing") then Some (OnJob (Timing count))
    else (if bytes_eq name (codes "watch") then Some (Watch count) else None))))

-- the command with this name and no further arguments
abbrev pub plain_command : List ℕ → Option Command
plain_command name =
    if bytes_eq name (codes "check") then Some (OnJob Check)
    else (if bytes_eq name (codes "pipe") then Some (OnJob Pipe)
    else (if bytes_eq name (codes "asm") then Some Assemble
    else (if bytes_eq name (codes "read") then Some Read
    else (if bytes_eq name (codes "equiv") then Some Compare
    else (if bytes_eq name (codes "debug") then Some Debug else None)))))

-- the command of an accepted list
abbrev pub command_of : List (List ℕ) → Option Command
command_of (name ∷ []) = plain_command name
command_of (name ∷ count ∷ []) = option_and_then (counted_command name) (count_of count)
command_of (name ∷ seed ∷ count ∷ []) = seeded_command name (seed_of seed) (count_of count)
command_of _ = None

-- the commands that read the source
abbrev pub reads_input : Option Command → Bool
reads_input None = false
reads_input (Some (Generate seed count)) = false
reads_input (Some command) = true

-- the arguments that are in no accepted list, whatever the others are
abbrev pub is_barred : List ℕ → Bool
is_barred word = begins_with_dash word || bytes_eq word (codes "help")
