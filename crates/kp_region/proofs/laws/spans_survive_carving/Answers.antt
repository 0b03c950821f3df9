use Rattle.kp_region.proofs.Laid.{laid_below}
use Rattle.kp_region.proofs.laws.spans_survive_carving.Goals as goal

pub returns-clause-holds : goal.returns-clause-holds
returns-clause-holds c r s n sound within = laid_below r.words _ r.used sound s.start _ within
