use Rattle.std.proofs.Common.{◌≡◌, ◌<◌, ℕ, length, get_or, None}
use Rattle.kp_machine.specs.Machine.{result_for}
use Rattle.kp_design.specs.inner.Tables.{short_port}
use Rattle.kp_design.proofs.tables.ports.Given as goal

abbrev pub invariant-loop-t : goal.invariant-loop-t
invariant-loop-t l = record {
  count : length l.ports.items ≡ l.t;
  ports : (t : ℕ) → t < l.t → get_or l.ports.items t None ≡ short_port l.job (result_for l.job t);
}
