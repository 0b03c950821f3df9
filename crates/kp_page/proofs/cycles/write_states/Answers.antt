use Rattle.std.proofs.Common.{ap}
use Rattle.kp_cycle.specs.Steps.{Running}
use Rattle.kp_page.proofs.cycles.write_states.Goals as goal

pub write_first-requires-clause-net : goal.write_first-requires-clause-net
write_first-requires-clause-net g c = ap (λ (s : Running). s.net) c.requires.before
