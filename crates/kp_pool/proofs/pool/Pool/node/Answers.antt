use Rattle.std.proofs.Common.{◌≡◌, List, ap, sym, subst, ◌∙◌}
use Rattle.kp_net.{specs.declared.node.Node.Node, specs.Widths.AllRight, specs.Growth.Held, proofs.Exact.node_whole}
use Rattle.kp_pool.specs.inner.Folds.{StandsFor}
use Rattle.kp_pool.proofs.pool.Pool.node.Goals as goal

pub returns-in-There-clause-value : goal.returns-in-There-clause-value
returns-in-There-clause-value c =
    let ns = c.args.self.now.nodes in
    let vn : c.self.inside.nodes.items ≡ ns = ap (λ (h : Held). h.nodes) c.self.view_is in
    let P : List Node → Type 0 = AllRight in
    let Q : List Node → Type 0 = λ xs. StandsFor xs c.args.n.width c.args.n.kind c.in-There.i in
    let stands : StandsFor ns c.args.n.width c.args.n.kind c.in-There.i = subst Q (c.as_slice.ensures.value ∙ vn) c.in-There.ensures in
    λ x. stands.word x ∙ sym (node_whole x ns c.args.n (subst P vn c.self.invariant.2) c.requires.right stands.plain)
