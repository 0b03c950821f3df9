use Rattle.kp_paths.proofs.labels.write_row_label.Goals as goal

pub returns : goal.returns
returns g c = rw (c.bytes.ensures.bytes, c.bytes-2.ensures.bytes, c.brackets.ensures.value, c.from.ensures) at c.fill.ensures
