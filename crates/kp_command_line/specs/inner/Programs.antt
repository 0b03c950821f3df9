-- What `clap` is given, and how the name that it found is read.
use Rattle.std.specs.Prelude.{ℕ, Bool, true, zero, suc, List, [], ◌∷◌, map, drop, codes, Option, Some, None}
use Rattle.clap.specs.{Walk.Rule, Simple.App, Simple.Shape, Simple.new_rule, Simple.new_shape}
use Rattle.clap.specs.declared.builder.action.ArgAction.TheVariants.{Set}
use Rattle.kp_command_line.specs.Words.{Matched, Name, Text}

-- an argument of at most this many words
abbrev pub words_rule : ℕ → Rule
words_rule most = record (new_rule (codes "words")) { action = Some Set; range = Some (record { start_inclusive = 0; end_inclusive = most }) }

abbrev pub rules_for : ℕ → List Rule
rules_for zero = []
rules_for (suc n) = words_rule (suc n) ∷ []

abbrev pub with_words : ℕ → Shape → Shape
with_words most shape = record shape { rules = rules_for most }

abbrev pub shape_for : Name → Shape
shape_for name = with_words name.1 (new_shape name.0)

-- The first word of the program is already an argument, and none asks for help.
abbrev pub program_shape : Text → ℕ → Bool → Shape
program_shape name most is_leaf = record (new_shape name) {
  rules = rules_for most;
  is_leaf = is_leaf;
  no_binary_name = true;
  disable_help_flag = true;
  disable_help_subcommand = true;
}

abbrev pub program_of : Text → ℕ → Bool → List Name → App
program_of program most is_leaf names = record { top = program_shape program most is_leaf; subs = map shape_for names }

-- the words, of which the first is the name, if one was found
abbrev pub named_by : Option Text → List Text → Matched
named_by (Some name) words = record { name = Some name; rest = drop 1 words }
named_by None words = record { name = None; rest = words }
