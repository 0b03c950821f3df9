use Rattle.std.proofs.Common.{◌≡◌, drop, map}
use Rattle.kp_base.specs.Findings.{with_answers}
use Rattle.kp_image.specs.Sections.{stall_of}
use Rattle.kp_image.proofs.check.note_stalls.Given as goal

abbrev pub invariant-loop-e : goal.invariant-loop-e
invariant-loop-e l = with_answers l.notes (map (stall_of l.stages) (drop l.e-index l.entries)) ≡ with_answers l.initial.notes (map (stall_of l.stages) l.entries)
