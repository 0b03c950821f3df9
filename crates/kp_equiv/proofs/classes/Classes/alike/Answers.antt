use Rattle.std.proofs.Common.{List, ap, ◌∙◌}
use Rattle.kp_net.specs.declared.node.NodeId.{NodeId}
use Rattle.kp_equiv.{specs.Classes.class_in, proofs.Determined.alike_found}
use Rattle.kp_equiv.proofs.classes.Classes.alike.Goals as goal

pub returns : goal.returns
returns c =
    alike_found c.args.a.now c.args.b.now c.args.self.now.first.items c.args.self.now.second.items c.args.i c.args.j c.class_of-first.result c.class_of-second.result c.eq.result c.requires.determines
    c.requires.in_first c.requires.in_second
    (c.class_of-first.ensures ∙ ap (λ (xs : List NodeId). class_in xs c.args.i) c.as_slice.ensures.value)
    (c.class_of-second.ensures ∙ ap (λ (xs : List NodeId). class_in xs c.args.j) c.as_slice-2.ensures.value)
    c.eq.ensures
