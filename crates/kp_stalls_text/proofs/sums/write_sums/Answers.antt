use Rattle.kp_base.proofs.Writing.{◌▷◌}
use Rattle.kp_stalls_text.proofs.sums.write_sums.Goals as goal

pub returns : goal.returns
returns g c =
    let is = c.tally_of-tally.ensures in
    let lines = c.lines.ensures in
    (rw (is, lines) at c.write_values.ensures) ▷ (c.write_reads.ensures ▷ (rw (is, lines) at c.write_others.ensures))
