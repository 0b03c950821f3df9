use Rattle.std.proofs.Common.{map, string_bytes}
use Rattle.kp_base.proofs.Writing.{up_next}
use Rattle.kp_paths.proofs.Steps.{stages_next}
use Rattle.kp_paths.proofs.text.write_stages.Goals as goal

pub loop-j-preserved : goal.loop-j-preserved
loop-j-preserved g c =
    up_next _ _ _ _ _ _ _ (stages_next (map string_bytes c.args.names.now) c.args.count c.loop-j.j c.loop-j-test.true) c.loop-j.invariant
    (rw c.column-width.ensures at c.write_stage_head.ensures)
