use Rattle.std.proofs.Common.{sym, subst, length}
use Rattle.kp_net.specs.{declared.node.Kind.Kind, Widths.NodeOk}
use Rattle.kp_pool.specs.inner.Folds.{FoldsTo}
use Rattle.kp_pool.proofs.fold.fold.Goals as goal

pub returns-in-Binary : goal.returns-in-Binary
returns-in-Binary c =
    let ns = c.args.nodes.now in
    let n = c.args.n.now in
    let P : Kind → Type 0 = λ o. NodeOk ns (length ns) (record { width = n.width; kind = o }) in
    let Q : Kind → Type 0 = λ o. FoldsTo ns n.width o c.binary.result in
    subst Q (sym c.in-Binary.is) (c.binary.ensures n.width (subst P c.in-Binary.is c.requires.node))
