use Rattle.std.proofs.Common.{append_assoc}
use Rattle.kp_gen.proofs.stated.add_first.Goals as goal

pub returns : goal.returns
returns c =
    rw (c.in_ok-add-3.ensures _ c.value_put.ensures, c.in_ok-add-2.ensures _ c.address_put.ensures, c.in_ok-add_puts.ensures)
    (rw (c.in_ok-add.ensures _ c.file_read.ensures, c.in_ok-add_reads.ensures, c.requires.none) (simp append_assoc))
