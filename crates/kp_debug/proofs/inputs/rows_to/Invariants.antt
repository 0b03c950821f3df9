use Rattle.std.proofs.Common.{◌≡◌}
use Rattle.kp_image.specs.Feeds.{row_in}
use Rattle.kp_debug.specs.inner.Lists.{rows_to}
use Rattle.kp_debug.proofs.inputs.rows_to.Given as goal

abbrev pub invariant-loop-cycle : goal.invariant-loop-cycle
invariant-loop-cycle l = l.rows.items ≡ rows_to (row_in l.inputs) l.cycle
