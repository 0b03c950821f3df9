use Rattle.std.proofs.Common.{◌≡◌, ℕ, List, drop}
use Rattle.kp_build.{specs.Names.node_of, proofs.Names.given}
use Rattle.kp_build.proofs.env.Env.of_call.Given as goal

abbrev pub invariant-loop-i : goal.invariant-loop-i
invariant-loop-i l = (l.env.decls ≡ l.earlier) × ((q : List ℕ) → node_of l.env.names q ≡ node_of (given (drop l.i l.params) (drop l.i l.args)) q)
