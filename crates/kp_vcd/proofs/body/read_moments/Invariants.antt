use Rattle.std.{proofs.Common.◌≡◌, proofs.Common.◌+◌, proofs.Common.length, proofs.Common.[], specs.Prelude.is_some, specs.Prelude.if◌then◌else◌}
use Rattle.kp_vcd.specs.{declared.dump.Dump.Dump, Reading.first_time, Reading.at, inner.Meeting.gives_from, inner.Meeting.gives_behind}
use Rattle.kp_vcd.proofs.body.read_moments.Given as goal

abbrev pub invariant-loop-next : goal.invariant-loop-next
invariant-loop-next l = (d : Dump) → d.signals ≡ l.signals → d.moments ≡ [] → gives_from (at first_time d) l.fn.words
    ≡ gives_behind (record d { moments = l.moments.items }) l.next l.words

abbrev pub decreases-loop-next : goal.decreases-loop-next
decreases-loop-next l = if is_some l.next then length l.words.words + 1 else 0
