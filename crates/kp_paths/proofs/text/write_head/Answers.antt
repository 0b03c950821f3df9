use Rattle.kp_base.proofs.Writing.{◌▷◌}
use Rattle.kp_paths.proofs.text.write_head.Goals as goal

pub returns : goal.returns
returns g c = (rw (c.bytes.ensures.bytes, c.job.ensures) at c.write_title.ensures) ▷ ((rw c.stages.ensures at c.write_stages.ensures) ▷ c.put.ensures)
