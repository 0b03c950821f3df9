use Rattle.kp_base.proofs.Writing.{◌▷◌}
use Rattle.kp_base.proofs.writer.Writer.column.Goals as goal

pub returns : goal.returns
returns g c = (rw c.saturating_sub.ensures at c.spaces.ensures) ▷ c.put.ensures
