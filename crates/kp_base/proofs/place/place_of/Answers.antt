use Rattle.std.proofs.Common.{[], refl}
use Rattle.kp_base.proofs.place.place_of.Goals as goal

pub returns : goal.returns
returns c = c.after.ensures [] refl
