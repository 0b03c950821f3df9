use Rattle.kp_base.proofs.Writing.{each_more}
use Rattle.kp_vwrite.{specs.Texts.part_text, proofs.Safe.get_again}
use Rattle.kp_vwrite.proofs.nodes.write_parts.Goals as goal

pub loop-part-preserved : goal.loop-part-preserved
loop-part-preserved g c =
    each_more part_text c.args.parts.now c.loop-part.part-index _ _ _ _ c.loop-part-test.true (get_again c.args.parts.now c.loop-part.part-index _ c.loop-part-test.true) c.loop-part.invariant c.write_part.ensures
