use Rattle.kp_base.proofs.Writing.{◌▷◌}
use Rattle.kp_stalls_text.proofs.lines.write_writer.Goals as goal

pub returns : goal.returns
returns g c = c.write_instruction.ensures ▷ c.write_had.ensures
