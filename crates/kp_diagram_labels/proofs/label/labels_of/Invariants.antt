use Rattle.std.proofs.Common.{◌≡◌, All, drop, map}
use Rattle.kp_base.specs.Lines.{piece_of}
use Rattle.kp_diagram_labels.specs.Labels.{IsLabel, labels_from}
use Rattle.kp_diagram_labels.proofs.Reading.{prefixed}
use Rattle.kp_diagram_labels.proofs.label.labels_of.Given as goal

abbrev pub invariant-loop-word : goal.invariant-loop-word
invariant-loop-word l = record {
  read : labels_from l.layout (map (piece_of l.text) l.words) ≡ prefixed l.labels.items (labels_from l.layout (map (piece_of l.text) (drop l.word-index l.words)));
  fits : All (IsLabel l.layout l.text) l.labels.items;
}
