use Rattle.std.proofs.Common.{◌≡◌, drop, None}
use Rattle.kp_seq.specs.inner.Notes.{changed_from, marked}
use Rattle.kp_seq.proofs.notes.mark_results.Given as goal

abbrev pub invariant-loop-i : goal.invariant-loop-i
invariant-loop-i l =
    changed_from (λ i o old. marked l.k l.under.results o old) None l.set_in l.i (drop l.i l.outlets)
    ≡ changed_from (λ i o old. marked l.k l.under.results o old) None l.initial.set_in 0 l.outlets
