use Rattle.kp_base.proofs.Writing.{◌▷◌}
use Rattle.kp_paths.proofs.text.write_table.Goals as goal

pub returns : goal.returns
returns g c = c.write_head.ensures ▷ ((rw (c.as_slice.ensures, c.job.ensures) at c.write_blocks.ensures) ▷ c.write_legend.ensures)
