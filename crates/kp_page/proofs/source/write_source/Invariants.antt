use Rattle.std.{proofs.Common.◌≤◌, proofs.Common.take, specs.Prelude.flat_map, specs.Io.KnownBytes.Appends}
use Rattle.kp_page.specs.Page.{escaped}
use Rattle.kp_page.proofs.source.write_source.Given as goal

abbrev pub invariant-loop-byte : goal.invariant-loop-byte
invariant-loop-byte g l =
    Appends (g.K.Sink.held l.initial.sink) (g.K.Sink.held l.sink) (flat_map escaped (take l.byte-index l.source))
    × (g.K.Sink.faults l.initial.sink ≤ g.K.Sink.faults l.sink)
