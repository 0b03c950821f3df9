use Rattle.std.proofs.Common.{rules, ◌+◌}
use Rattle.kp_sched.specs.Rows.{bit_of, row_seen}
use Rattle.kp_diagram.specs.Diagram.{losses_after as next_losses}
use Rattle.kp_diagram_text.{specs.Losses.losses_shown, proofs.Losses.set_above}
use Rattle.kp_diagram_text.proofs.account.losses_after.Goals as goal

pub loop-k-preserved : goal.loop-k-preserved
loop-k-preserved c = (
  search rules,
  set_above c.loop-k.after (c.from.result + 1) c.loop-k.k c.loss_above.result
      (λ j. next_losses (bit_of c.args.word) (row_seen (c.args.last + 1) c.args.row) (losses_shown c.args.losses.now) j)
      c.loop-k.invariant.0 (search rules) (search rules) c.loop-k.invariant.1 (search rules),
)
