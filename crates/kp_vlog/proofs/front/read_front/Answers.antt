use Rattle.std.proofs.Common.{◌∙◌, ap, sym, subst, length}
use Rattle.kp_vlog.{specs.Fronts.seen, specs.Fronts.Fits, proofs.Fronts.seen_front, proofs.Fronts.fits_front}
use Rattle.kp_vlog.proofs.front.read_front.Goals as goal

pub returns-clause-reported : goal.returns-clause-reported
returns-clause-reported c = ap (seen c.args.text.now) c.begin_of.ensures ∙ seen_front c.args.text.now

pub returns-clause-fits : goal.returns-clause-fits
returns-clause-fits c = subst (Fits (length c.args.text.now)) (sym c.begin_of.ensures) (fits_front c.args.text.now)
