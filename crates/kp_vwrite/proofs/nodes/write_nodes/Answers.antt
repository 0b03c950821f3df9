use Rattle.std.proofs.{Common.refl, lemmas.List.take_all}
use Rattle.kp_base.proofs.Writing.{each_at}
use Rattle.kp_vwrite.{specs.Texts.nodes_text, specs.Texts.node_text, proofs.Safe.safe_at}
use Rattle.kp_vwrite.proofs.nodes.write_nodes.Goals as goal

pub write_node-requires : goal.write_node-requires
write_node-requires g c = safe_at c.args.parts.now c.args.nodes.now c.loop-number.number _ c.requires c.loop-number-test.true c.index-nodes-number.is

pub loop-number-preserved : goal.loop-number-preserved
loop-number-preserved g c =
    each_at (nodes_text c.args.parts.now) (node_text c.args.parts.now) (λ _ _ _. refl) (λ _. refl) c.args.nodes.now c.loop-number.number _ _ _ _ c.loop-number-test.true c.index-nodes-number.is c.loop-number.invariant c.write_node.ensures

pub returns : goal.returns
returns g c = rw (take_all c.loop-number.number c.args.nodes.now c.loop-number-test.false) at c.loop-number.invariant
