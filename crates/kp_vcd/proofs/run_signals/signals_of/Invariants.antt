use Rattle.std.proofs.Common.{◌≡◌, ◌++◌, drop}
use Rattle.kp_vcd.specs.Dumps.{register_signals, signals_of}
use Rattle.kp_vcd.proofs.run_signals.signals_of.Given as goal

abbrev pub invariant-loop-decl : goal.invariant-loop-decl
invariant-loop-decl l = l.signals.items ++ register_signals (drop l.decl-index l.decl-items) ≡ signals_of l.design.job
