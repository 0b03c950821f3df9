use Rattle.kp_base.proofs.Writing.{◌▷◌}
use Rattle.kp_paths.specs.Arrows.{arrows}
use Rattle.kp_paths.proofs.picture_rows.write_row.Goals as goal

pub returns : goal.returns
unfolding arrows
returns g c =
    (rw (c.line_in-line.ensures, c.arrow_count.ensures, c.right_end.ensures.value, c.stages.ensures) at c.write_row_start.ensures)
    ▷ ((rw c.note.ensures at c.write_row_label.ensures) ▷ ((rw c.middle.ensures.value at c.write_box.ensures) ▷ ((rw c.stages-2.ensures at c.write_arrows.ensures) ▷ c.put.ensures)))
