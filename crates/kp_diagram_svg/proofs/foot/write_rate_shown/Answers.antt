use Rattle.std.proofs.Common.{◌==◌, ne_eqb}
use Rattle.std.{specs.Prelude.codes, proofs.lemmas.Bool.cond-false}
use Rattle.kp_base.proofs.Writing.{◌▷◌}
use Rattle.kp_diagram_text.specs.Text.{rate}
use Rattle.kp_diagram_svg.proofs.foot.write_rate_shown.Goals as goal

pub returns : goal.returns
unfolding rate
returns g c = rw (cond-false (c.args.retired == 0) (codes "-") (rate c.args.cycles c.args.retired) (ne_eqb c.args.retired 0 c.if-retired-eq0.false)) ((c.number.ensures ▷ (rw c.point.ensures at c.put-2.ensures)) ▷ c.number-2.ensures)
