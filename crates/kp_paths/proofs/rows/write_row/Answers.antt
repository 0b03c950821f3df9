use Rattle.kp_base.proofs.Writing.{◌▷◌}
use Rattle.kp_paths.proofs.rows.write_row.Goals as goal

pub returns : goal.returns
returns g c =
    c.write_label.ensures ▷ ((rw (c.saturating_sub-pad.ensures, c.label_length.ensures.value) at c.write_place.ensures) ▷ ((rw (c.column.ensures, c.stages.ensures) at c.write_cells.ensures) ▷ c.write_note.ensures))
