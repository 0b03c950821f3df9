use Rattle.std.proofs.Common.{◌≡◌, drop}
use Rattle.kp_seq.specs.inner.{Steps.written_from, Resolved.outputs}
use Rattle.kp_seq.proofs.instruction.write.Given as goal

abbrev pub invariant-loop-t : goal.invariant-loop-t
invariant-loop-t l = written_from (outputs l.under) l.words l.t (drop l.t l.tables.ports) ≡ written_from (outputs l.under) l.initial.words 0 l.tables.ports
