use Rattle.std.proofs.Common.{◌+◌, ◌*◌, ap, length}
use Rattle.kp_base.proofs.Writing.{◌▷◌, wrote_as}
use Rattle.kp_diagram_svg.{specs.Picture.foot, specs.Sizes.half_of, proofs.Whole.whole}
use Rattle.kp_diagram_svg.proofs.picture.put_svg.Goals as goal

pub returns : goal.returns
returns g c =
    wrote_as _ _ _ _ (whole c.args.chart.now _ _ (ap half_of c.longest.ensures.value) c.count_rows-rows.ensures.rows)
    (c.write_head.ensures ▷ ((c.put.ensures ▷ (c.write_columns.ensures ▷ (c.put-2.ensures ▷ c.write_rows.ensures)))
    ▷ wrote_as _ _ _ _ (ap (foot (4 * c.longest.result + 14) (length c.args.chart.now.rows.now) c.count_rows-rows.result) c.account_of.ensures.account) c.write_foot.ensures))
