use Rattle.std.proofs.Common.{◌≡◌, ◌∙◌, ℕ, List, [], length, sym, ap, subst, arith}
use Rattle.kp_net.specs.declared.node.NodeId.{NodeId}
use Rattle.kp_equiv.specs.declared.{bit.Bit.Bit, term.Term.TheVariants.Bits}
use Rattle.kp_equiv.specs.{Classes.class_in, Wiring.bits_of_kind, inner.Shapes.shape, inner.Bits.bits_in, inner.Shapes.Puts, inner.Shapes.Grown}
use Rattle.kp_equiv.proofs.Growing.{none_grown, one_grown, node_right, operands_fit}
use Rattle.kp_equiv.proofs.node_classes.classes_of_net.Goals as goal

pub loop-n-init : goal.loop-n-init
loop-n-init c =
    subst (λ (xs : List NodeId). Grown c.args.known.now c.args.net.now c.args.table.now c.args.table.now xs c.new-wires.result.items 0) (sym c.new-classes.ensures.items)
    (subst (λ (ws : List (List Bit)). Grown c.args.known.now c.args.net.now c.args.table.now c.args.table.now [] ws 0) (sym c.new-wires.ensures.items)
    (none_grown c.args.known.now c.args.net.now c.args.table.now c.requires.table))

pub shape-shape-requires-clause-right : goal.shape-shape-requires-clause-right
shape-shape-requires-clause-right c =
    (node_right c.args.net.now c.nodes-n-items.result.now c.n-item.result c.loop-n.n-index (length c.as_slice.result.now) c.nodes-n-items.ensures.right c.nodes-n-items.ensures.nodes
    c.loop-n-test.true c.n-item.is (ap length c.as_slice.ensures.value ∙ c.loop-n.invariant.count)).0

pub shape-shape-requires-clause-cell : goal.shape-shape-requires-clause-cell
shape-shape-requires-clause-cell c =
    (node_right c.args.net.now c.nodes-n-items.result.now c.n-item.result c.loop-n.n-index (length c.as_slice.result.now) c.nodes-n-items.ensures.right c.nodes-n-items.ensures.nodes
    c.loop-n-test.true c.n-item.is (ap length c.as_slice.ensures.value ∙ c.loop-n.invariant.count)).1

pub number-requires-clause-room : goal.number-requires-clause-room
number-requires-clause-room c =
    let g = c.loop-n.invariant in
    omega (arith, g.grown, g.within, c.requires.room, c.nodes-n-items.ensures.right.count)

pub number-requires-clause-table : goal.number-requires-clause-table
number-requires-clause-table c = c.loop-n.invariant.table

pub of_node-requires-clause-width : goal.of_node-requires-clause-width
of_node-requires-clause-width c =
    (operands_fit c.args.known.now c.args.net.now c.nodes-n-items.result.now c.args.table.now c.loop-n.table c.loop-n.classes.items c.loop-n.wires.items c.as_slice-in-loop-n.result.now c.n-item.result c.loop-n.n-index
    c.nodes-n-items.ensures.right c.nodes-n-items.ensures.nodes c.loop-n-test.true c.n-item.is c.loop-n.invariant c.as_slice-in-loop-n.ensures.value).0

pub of_node-requires-clause-fits : goal.of_node-requires-clause-fits
of_node-requires-clause-fits c =
    (operands_fit c.args.known.now c.args.net.now c.nodes-n-items.result.now c.args.table.now c.loop-n.table c.loop-n.classes.items c.loop-n.wires.items c.as_slice-in-loop-n.result.now c.n-item.result c.loop-n.n-index
    c.nodes-n-items.ensures.right c.nodes-n-items.ensures.nodes c.loop-n-test.true c.n-item.is c.loop-n.invariant c.as_slice-in-loop-n.ensures.value).1

pub number-requires-in-loop-n-clause-room : goal.number-requires-in-loop-n-clause-room
number-requires-in-loop-n-clause-room c =
    let g = c.loop-n.invariant in
    omega (arith, g.grown, g.within, c.requires.room, c.nodes-n-items.ensures.right.count, c.in_ok-number.ensures.count)

pub number-requires-in-loop-n-clause-table : goal.number-requires-in-loop-n-clause-table
number-requires-in-loop-n-clause-table c = c.in_ok-number.ensures.table

pub loop-n-preserved : goal.loop-n-preserved
loop-n-preserved c =
    one_grown c.args.known.now c.args.net.now c.args.table.now c.loop-n.table c.number.new.self c.number-in-loop-n.new.self c.nodes-n-items.result.now c.loop-n.classes.items c.push.new.self.items
    c.loop-n.wires.items c.push-in-loop-n.new.self.items c.in_ok-bits.bits c.in_ok-number.number c.in_ok-class.class c.n-item.result c.shape-shape.result c.loop-n.n-index
    c.nodes-n-items.ensures.right c.nodes-n-items.ensures.nodes c.loop-n-test.true c.n-item.is c.loop-n.invariant
    (c.shape-shape.ensures ∙ ap (λ (xs : List NodeId). shape c.args.known.now c.args.net.now.parts (class_in xs) c.n-item.result) c.as_slice.ensures.value)
    c.in_ok-number.ensures
    (c.in_ok-bits.ensures ∙ ap (λ (ws : List (List Bit)). bits_of_kind (bits_in ws) c.in_ok-number.number c.n-item.result.width c.n-item.result.kind) c.as_slice-in-loop-n.ensures.value)
    (subst (λ (bs : List Bit). Puts c.number.new.self c.number-in-loop-n.new.self (Bits bs) c.in_ok-class.class.0) c.in_ok-key.ensures c.in_ok-class.ensures)
    c.in_ok-push.ensures.items c.in_ok-push-2.ensures.items

pub returns-clause-classes : goal.returns-clause-classes
returns-clause-classes c =
    let all : c.loop-n.n-index ≡ length c.args.net.now.nodes = omega (arith, c.loop-n.invariant.within, c.loop-n-test.false, ap length c.nodes-n-items.ensures.nodes) in
    (c.loop-n.wires.items, subst (λ (i : ℕ). Grown c.args.known.now c.args.net.now c.args.table.now c.loop-n.table c.loop-n.classes.items c.loop-n.wires.items i) all c.loop-n.invariant)
