-- The texts of help, usage and version are constants of the program.
use Rattle.std.specs.Prelude.{ℕ, List}
use Rattle.kp_view_words.specs.declared.texts.TheConstants.{VERSION, USAGE, USAGE_DIAGRAM, USAGE_SVG, USAGE_PAGE, USAGE_PATHS, USAGE_STALLS, USAGE_DEPTH, USAGE_SAME, HELP, HELP_DIAGRAM, HELP_SVG, HELP_PAGE, HELP_PATHS, HELP_STALLS, HELP_DEPTH, HELP_SAME}
use Rattle.kp_view_words.specs.declared.words.Topic.{Topic, TheVariants.Program, TheVariants.Of}
use Rattle.kp_view_words.specs.declared.words.Word.TheVariants.{Diagram, Svg, Page, Paths, Stalls, Depth, Same}

abbrev pub help_text : Topic → List ℕ
help_text Program = HELP.now
help_text (Of Diagram) = HELP_DIAGRAM.now
help_text (Of Svg) = HELP_SVG.now
help_text (Of Page) = HELP_PAGE.now
help_text (Of Paths) = HELP_PATHS.now
help_text (Of Stalls) = HELP_STALLS.now
help_text (Of Depth) = HELP_DEPTH.now
help_text (Of Same) = HELP_SAME.now

abbrev pub usage_text : Topic → List ℕ
usage_text Program = USAGE.now
usage_text (Of Diagram) = USAGE_DIAGRAM.now
usage_text (Of Svg) = USAGE_SVG.now
usage_text (Of Page) = USAGE_PAGE.now
usage_text (Of Paths) = USAGE_PATHS.now
usage_text (Of Stalls) = USAGE_STALLS.now
usage_text (Of Depth) = USAGE_DEPTH.now
usage_text (Of Same) = USAGE_SAME.now

abbrev pub version_text : List ℕ
version_text = VERSION.now
