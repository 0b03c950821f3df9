-- WHAT DIRECTIVES GIVE: names of the stages, and the text that names the labels; or the rule that they violate.
use Rattle.std.specs.Prelude.{ℕ, List, [], Option, Some, None, Result, Ok, Err}
use Rattle.kp_base.specs.{Lines.piece_of, declared.run.Run.Run}
use Rattle.kp_ast.specs.declared.tree.Job.{Job}
use Rattle.kp_directive.specs.{Directives.directives_of, Faults.directive_of, Faults.stage_names, declared.directive.Directive.Directive, declared.directive.DirectiveFault.DirectiveFault}
use Rattle.kp_directive.specs.declared.directive.DirectiveFault.TheVariants.{Label as WrongLabel}
use Rattle.kp_directive.specs.declared.directive.Verb.TheVariants as verbs
use Rattle.kp_view_words.specs.Words.{Order, label_added, named}
use Rattle.kp_diagram_labels.specs.{Labels.labels_in, declared.label.Label.Label}

pub record Listed : Type 0 where
  pub names : List (List ℕ)
  pub label : List ℕ

-- D3: each word after `label` is a label
abbrev pub checked_label : List ℕ → Run → Result (List Label) Run → Result (List ℕ) DirectiveFault
checked_label input run (Ok labels) = Ok (piece_of input run).bytes
checked_label input run (Err word) = Err (WrongLabel word)

-- the text after `label`, if there is such a directive
abbrev pub label_after : Job → List ℕ → Option Directive → Result (List ℕ) DirectiveFault
label_after job input None = Ok []
label_after job input (Some d) = checked_label input d.rest (labels_in job input d.rest)

abbrev pub label_of : Job → List ℕ → ℕ → Result (List ℕ) DirectiveFault
label_of job input end = label_after job input (directive_of verbs.Label (directives_of input end))

abbrev pub listed_with : List (List ℕ) → Result (List ℕ) DirectiveFault → Result Listed DirectiveFault
listed_with names (Ok label) = Ok (record { names = names; label = label })
listed_with names (Err fault) = Err fault

abbrev pub listed_by : Result (List (List ℕ)) DirectiveFault → Result (List ℕ) DirectiveFault → Result Listed DirectiveFault
listed_by (Ok names) label = listed_with names label
listed_by (Err fault) label = Err fault

-- what the directives before the end give
abbrev pub listed_in : Job → List ℕ → ℕ → Result Listed DirectiveFault
listed_in job input end = listed_by (stage_names input end job.stages.value) (label_of job input end)

-- what is asked for with them, where the command line gives none
abbrev pub given_by : Listed → Order → Order
given_by listed order = label_added listed.label (named listed.names order)
