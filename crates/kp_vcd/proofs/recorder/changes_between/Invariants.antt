use Rattle.std.proofs.Common.{◌≡◌, ◌++◌, drop}
use Rattle.kp_vcd.specs.Recording.{changes_from}
use Rattle.kp_vcd.proofs.recorder.changes_between.Given as goal

abbrev pub invariant-loop-signal : goal.invariant-loop-signal
invariant-loop-signal l = l.changes.items ++ changes_from l.signal l.before (drop l.signal l.now) ≡ changes_from 0 l.before l.now
