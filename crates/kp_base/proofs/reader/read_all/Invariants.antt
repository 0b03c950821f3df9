use Rattle.std.{proofs.Common.◌≤◌, proofs.Common.◌-◌, proofs.Common.vec_len, specs.Io.KnownBytes.Consumes}
use Rattle.kp_base.proofs.reader.read_all.Given as goal

abbrev pub invariant-loop-piece : goal.invariant-loop-piece
invariant-loop-piece g l =
    (vec_len l.bytes ≤ 16777217)
    × Consumes (g.S.Source.left l.initial.source) (g.S.Source.left l.source) l.bytes.items
    × (g.S.Source.faults l.initial.source ≤ g.S.Source.faults l.source)

abbrev pub decreases-loop-piece : goal.decreases-loop-piece
decreases-loop-piece g l = 16777217 - vec_len l.bytes
