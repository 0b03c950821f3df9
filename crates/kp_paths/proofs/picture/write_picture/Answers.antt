use Rattle.kp_base.proofs.Writing.{◌▷◌}
use Rattle.kp_paths.proofs.picture.write_picture.Goals as goal

pub returns : goal.returns
returns g c =
    (rw (c.height.ensures, c.width-width.ensures, c.stages.ensures, c.bytes-name.ensures.bytes, c.job.ensures) at c.write_head.ensures)
    ▷ ((rw c.stages-2.ensures at c.write_columns.ensures) ▷ ((rw (c.as_slice.ensures, c.job-2.ensures) at c.write_blocks.ensures) ▷ c.write_legend.ensures))
