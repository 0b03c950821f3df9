use Rattle.std.proofs.Common.{◌≡◌, ◌++◌, drop, map}
use Rattle.kp_net.specs.declared.netlist.Port.{Port}
use Rattle.kp_equiv.proofs.names.Names.of_samples.Given as goal

abbrev pub invariant-loop-sample : goal.invariant-loop-sample
invariant-loop-sample l = map (λ n. n.now) l.names.items ++ map (λ (x : Port). x.name) (drop l.sample-index l.samples) ≡ map (λ (x : Port). x.name) l.samples
