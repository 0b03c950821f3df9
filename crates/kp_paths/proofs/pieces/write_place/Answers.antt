use Rattle.kp_base.proofs.Writing.{◌▷◌}
use Rattle.kp_paths.proofs.pieces.write_place.Goals as goal

pub returns : goal.returns
returns g c = (rw c.from.ensures at c.pieces.ensures) ▷ c.write_stage_left.ensures
