use Rattle.kp_base.proofs.Writing.{◌▷◌}
use Rattle.kp_paths.proofs.stage_names.write_stage_left.Goals as goal

pub returns : goal.returns
returns g c = c.write_stage.ensures ▷ (rw (c.saturating_sub.ensures, c.stage_length.ensures) at c.spaces.ensures)
