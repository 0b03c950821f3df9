use Rattle.std.proofs.Common.{length, sym, ap, subst, arith}
use Rattle.kp_equiv.{specs.inner.Shapes.Numbered, specs.inner.Shapes.IsTable, specs.inner.Shapes.Grown, proofs.Tables.none_numbered}
use Rattle.kp_equiv.proofs.Growing.{classes_determine}
use Rattle.kp_equiv.proofs.node_classes.classes_in.Goals as goal

pub classes_of_net-requires-clause-room : goal.classes_of_net-requires-clause-room
classes_of_net-requires-clause-room c = omega (arith, ap length c.requires.empty)

pub classes_of_net-requires-clause-table : goal.classes_of_net-requires-clause-table
classes_of_net-requires-clause-table c = subst IsTable (sym c.requires.empty) none_numbered

pub classes_of_net-requires-2-clause-room : goal.classes_of_net-requires-2-clause-room
classes_of_net-requires-2-clause-room c = omega (arith, c.in_ok-first.ensures.classes.1.grown, c.in_ok-first.ensures.right.count, ap length c.requires.empty)

pub classes_of_net-requires-2-clause-table : goal.classes_of_net-requires-2-clause-table
classes_of_net-requires-2-clause-table c = c.in_ok-first.ensures.classes.1.table

pub returns : goal.returns
returns c =
    let a = c.args.a.now in
    let ks = c.args.known.now in
    let one = c.in_ok-first.ensures in
    let two = c.in_ok-second.ensures in
    classes_determine a c.args.b.now ks c.classes_of_net.new.table c.classes_of_net-2.new.table c.in_ok-first.first.items c.in_ok-second.second.items one.right two.right c.requires.known
    one.classes.0 two.classes.0
    (subst (λ (t : Numbered). Grown ks a t c.classes_of_net.new.table c.in_ok-first.first.items one.classes.0 (length a.nodes)) c.requires.empty one.classes.1) two.classes.1
