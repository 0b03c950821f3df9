use Rattle.kp_base.proofs.Writing.{◌▷◌}
use Rattle.kp_paths.proofs.picture.write_column.Goals as goal

pub returns : goal.returns
returns g c = c.fill.ensures ▷ (c.write_stage.ensures ▷ c.put.ensures)
