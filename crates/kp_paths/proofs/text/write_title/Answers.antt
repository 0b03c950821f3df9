use Rattle.kp_paths.specs.Text.{title_text}
use Rattle.kp_paths.proofs.text.write_title.Goals as goal

pub returns : goal.returns
unfolding title_text
returns g c = rw c.saturating_sub.ensures at c.pieces.ensures
