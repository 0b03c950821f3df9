use Rattle.std.proofs.Common.{◌≡◌, ◌+◌, ◌≤◌, length}
use Rattle.kp_debug.proofs.session.Session.step.Given as goal

abbrev pub invariant-loop : goal.invariant-loop
invariant-loop l = (l.self ≡ record l.fn.self { cycle = l.fn.self.cycle + l.counter }) × (l.fn.self.cycle + l.end ≤ length l.fn.self.inputs)
