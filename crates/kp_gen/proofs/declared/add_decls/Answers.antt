use Rattle.std.proofs.Common.{append_assoc}
use Rattle.kp_gen.proofs.declared.add_decls.Goals as goal

pub returns : goal.returns
returns c =
    rw (c.in_ok-add-4.ensures _ c.file_target.ensures, c.in_ok-add_results.ensures, c.in_ok-add-3.ensures _ c.file_pipe-2.ensures, c.in_ok-add-2.ensures _ c.file_pipe.ensures)
    (rw (c.in_ok-add_pipes.ensures, c.in_ok-add.ensures _ c.file.ensures, c.in_ok-add_registers.ensures, c.requires.none) (simp append_assoc))
