use Rattle.std.proofs.Common.{◌≡◌, drop, None, get_or}
use Rattle.kp_seq.specs.inner.Notes.{changed_from, setting_noted}
use Rattle.kp_seq.proofs.notes.note_settings.Given as goal

abbrev pub invariant-loop-i : goal.invariant-loop-i
invariant-loop-i l =
    changed_from (λ i o old. setting_noted (get_or l.set_in i None) o) 0 l.settings l.i (drop l.i l.outlets)
    ≡ changed_from (λ i o old. setting_noted (get_or l.set_in i None) o) 0 l.initial.settings 0 l.outlets
