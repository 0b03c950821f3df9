use Rattle.std.{proofs.Common.length, proofs.Common.take, proofs.Common.◌-◌, proofs.Common.◌≡◌, proofs.Common.◌≤◌, specs.Io.KnownBytes.Appends}
use Rattle.kp_base.proofs.writer.write_all.Given as goal

abbrev pub invariant-loop-done : goal.invariant-loop-done
invariant-loop-done g l =
    (l.done ≤ length l.piece)
    × Appends (g.K.Sink.held l.initial.sink) (g.K.Sink.held l.sink) (take l.done l.piece)
    × (g.K.Sink.faults l.initial.sink ≤ g.K.Sink.faults l.sink)
    × (l.done ≡ 0 → l.sink ≡ l.initial.sink)

abbrev pub decreases-loop-done : goal.decreases-loop-done
decreases-loop-done g l = length l.piece - l.done
