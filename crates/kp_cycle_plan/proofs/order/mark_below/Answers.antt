use Rattle.std.proofs.Common.{◌≡◌, ◌<◌, ◌≤◌, ℕ, List, false, get_or, ap, subst, ◌∙◌}
use Rattle.std.{proofs.lemmas.List.get_or_default, specs.Prelude.All}
use Rattle.kp_net.specs.{declared.node.Node.Node, Widths.no_node}
use Rattle.kp_cycle_plan.{specs.Plans.reads, specs.Plans.IsMarked, proofs.Marking.needed_more}
use Rattle.kp_cycle_plan.proofs.order.mark_below.Goals as goal

pub returns-then-marks-i : goal.returns-then-marks-i
returns-then-marks-i c =
    let ns = c.args.net.now.nodes in
    let d : Node = c.index-nodes-i.result in
    let x : Node = get_or c.nodes.result.now c.args.i d in
    let new = c.mark_operands.new.marks in
    let same : x ≡ get_or ns c.args.i no_node = ap (λ (ms : List Node). get_or ms c.args.i d) c.nodes.ensures.nodes ∙ get_or_default ns c.args.i d no_node c.requires.inside in
    let P : Node → Type 0 = λ n. All (λ a. IsMarked new a.0) (reads n.kind) in
    let Q : Node → Type 0 = λ n. (k j : ℕ) → All (λ a. a.0 < k) (reads n.kind) → k ≤ j → get_or new j false ≡ get_or c.args.marks.now j false in
    needed_more c.args.net.now c.args.i c.args.marks.now new c.nodes.ensures.right.right c.requires.inside c.mark_operands.ensures.grows
    (subst P same c.mark_operands.ensures.operands) (subst Q same c.mark_operands.ensures.others) c.requires.needed
