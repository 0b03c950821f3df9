use Rattle.kp_base.proofs.Writing.{◌▷◌}
use Rattle.kp_paths.proofs.rows.write_note.Goals as goal

pub returns : goal.returns
returns g c = (rw c.note.ensures at c.put.ensures) ▷ c.put-2.ensures
