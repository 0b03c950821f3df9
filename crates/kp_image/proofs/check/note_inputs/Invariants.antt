use Rattle.std.proofs.Common.{◌≡◌, drop, map}
use Rattle.kp_base.specs.Findings.{with_answers}
use Rattle.kp_image.specs.Sections.{input_of}
use Rattle.kp_image.proofs.check.note_inputs.Given as goal

abbrev pub invariant-loop-e : goal.invariant-loop-e
invariant-loop-e l = with_answers l.notes (map (input_of l.decls) (drop l.e-index l.entries)) ≡ with_answers l.initial.notes (map (input_of l.decls) l.entries)
