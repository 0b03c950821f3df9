use Rattle.std.proofs.Common.{◌-◌, map, string_bytes}
use Rattle.kp_base.specs.inner.Writing.{WroteUpTo}
use Rattle.kp_paths.specs.Text.{stages_text}
use Rattle.kp_paths.proofs.text.write_stages.Given as goal

abbrev pub invariant-loop-j : goal.invariant-loop-j
invariant-loop-j g l =
    WroteUpTo g.K.Sink.held g.K.Sink.faults (stages_text (map string_bytes l.names) 0 l.count) (stages_text (map string_bytes l.names) l.j (l.count - l.j)) l.initial.out l.out
