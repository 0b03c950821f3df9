use Rattle.std.proofs.Common.{◌≡◌, get_or}
use Rattle.kp_synth_next.specs.Nexts.{outcome_at}
use Rattle.kp_synth.specs.Known.{no_names}
use Rattle.kp_wires.specs.Table.{below, stage_wires}
use Rattle.kp_wires.proofs.table.wires_of.Given as goal

abbrev pub invariant-loop-k : goal.invariant-loop-k
invariant-loop-k l =
    l.wires.items ≡ below (λ k. stage_wires l.built.net l.layout k (outcome_at l.built.outcomes.items k) (get_or l.built.names.items k no_names)) l.k
