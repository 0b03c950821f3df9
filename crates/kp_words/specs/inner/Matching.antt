-- The names of the commands, each with the greatest number of words after it, and the command of what is matched.
use Rattle.std.specs.Prelude.{List, [], ◌∷◌, codes, Option, None, Some}
use Rattle.kp_command_line.specs.Words.{Matched, Name, Text}
use Rattle.kp_words.specs.{Commands.command_of, declared.commands.Command.Command}

abbrev pub names : List Name
names =
    (codes "seq", 1) ∷ (codes "check", 0) ∷ (codes "sim", 1) ∷ (codes "vcd", 1) ∷ (codes "timing", 1) ∷ (codes "pipe", 0) ∷ (codes "asm", 0)
    ∷ (codes "read", 0) ∷ (codes "watch", 1) ∷ (codes "equiv", 0) ∷ (codes "debug", 0) ∷ (codes "gen", 2) ∷ []

abbrev pub command_named : Option Text → List Text → Option Command
command_named None rest = None
command_named (Some name) rest = command_of (name ∷ rest)

abbrev pub command_matched : Matched → Option Command
command_matched matched = command_named matched.name matched.rest
