use Rattle.std.proofs.Common.{◌≡◌, drop, None}
use Rattle.kp_seq.specs.inner.{Notes.changed_from, Notes.write_noted, Resolved.outputs}
use Rattle.kp_seq.proofs.notes.note_writes.Given as goal

abbrev pub invariant-loop-i : goal.invariant-loop-i
invariant-loop-i l =
    changed_from (λ i o old. write_noted (outputs l.under) o) None l.writes l.i (drop l.i l.outlets)
    ≡ changed_from (λ i o old. write_noted (outputs l.under) o) None l.initial.writes 0 l.outlets
