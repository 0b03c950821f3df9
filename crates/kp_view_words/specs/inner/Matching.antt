-- The words, each with the greatest number of words after it, and what is asked for by what is matched.
use Rattle.std.specs.Prelude.{List, [], ◌∷◌, codes, Option, None, Some, option_and_then}
use Rattle.kp_command_line.specs.Words.{Matched, Name, Text}
use Rattle.kp_view_words.specs.Words.{Task, task_with, word_named}

abbrev pub names : List Name
names = (codes "diagram", 14) ∷ (codes "svg", 14) ∷ (codes "page", 14) ∷ (codes "paths", 14) ∷ (codes "stalls", 14) ∷ (codes "depth", 14) ∷ (codes "same", 14) ∷ []

abbrev pub task_after : Option Text → List Text → Option Task
task_after None rest = None
task_after (Some name) rest = option_and_then (λ word. task_with word rest) (word_named name)

abbrev pub task_matched : Matched → Option Task
task_matched matched = task_after matched.name matched.rest
