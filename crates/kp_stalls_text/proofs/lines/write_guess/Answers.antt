use Rattle.kp_base.proofs.Writing.{◌▷◌}
use Rattle.kp_stalls_text.proofs.lines.write_guess.Goals as goal

pub returns : goal.returns
returns g c = c.write_guessed.ensures ▷ (c.write_producer.ensures ▷ c.write_spelled.ensures)
