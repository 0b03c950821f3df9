use Rattle.kp_image.proofs.Given.{starts}
use Rattle.kp_image.proofs.laws.a_start_state_fits.Goals as goal

pub returns : goal.returns
returns c = starts
