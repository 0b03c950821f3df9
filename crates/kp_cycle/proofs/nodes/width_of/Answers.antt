use Rattle.std.proofs.{Common.List, Common.get_or, Common.ap, Common.◌∙◌, lemmas.List.get_or_default}
use Rattle.kp_net.specs.{declared.node.Node.Node, Widths.wide, Widths.no_node}
use Rattle.kp_cycle.proofs.nodes.width_of.Goals as goal

pub returns-clause-width : goal.returns-clause-width
unfolding wide
returns-clause-width c =
    let x = c.index-nodes-a.result in
    ap (λ (n : Node). n.width) (ap (λ (ns : List Node). get_or ns c.args.a.0 x) c.nodes.ensures.nodes ∙ get_or_default c.args.net.now.nodes c.args.a.0 x no_node c.requires)
