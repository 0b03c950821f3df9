use Rattle.std.proofs.Common.{◌≡◌, ◌<◌, ◌≤◌, true, get_or, sym, ap, ◌∙◌, arith, ⊎_elim}
use Rattle.std.proofs.lemmas.{Bool.cases_lt, Bool.false≢true, List.get_or_default}
use Rattle.kp_net.{specs.declared.node.Node.Node, specs.Widths.no_node, proofs.Same.node_from_eq, proofs.Same.node_eq_itself}
use Rattle.kp_net.specs.contracts.node.NodePartialEq.TheImpl as nodes
use Rattle.kp_pool.proofs.index.search.Goals as goal

pub returns-then-eq : goal.returns-then-eq
returns-then-eq c =
    let x = c.index-nodes-i.result in
    let d : get_or c.args.nodes.now c.loop-i.i no_node ≡ x = get_or_default c.args.nodes.now c.loop-i.i no_node x c.loop-i-test.true ∙ sym c.index-nodes-i.is in
    (c.loop-i-test.true, d ∙ node_from_eq x c.args.n.now (sym c.eq.ensures ∙ c.if-eq.true))

pub loop-i-preserved : goal.loop-i-preserved
loop-i-preserved c = λ i h e.
    let x = c.index-nodes-i.result in
    let d : get_or c.args.nodes.now c.loop-i.i no_node ≡ x = get_or_default c.args.nodes.now c.loop-i.i no_node x c.loop-i-test.true ∙ sym c.index-nodes-i.is in
    ⊎_elim
    (λ (l : i < c.loop-i.i). c.loop-i.invariant i l e)
    (λ (l : c.loop-i.i ≤ i). let z : i ≡ c.loop-i.i = omega arith in
    let same : x ≡ c.args.n.now = sym d ∙ sym (ap (λ j. get_or c.args.nodes.now j no_node) z) ∙ e in
    let t : nodes.eq-value.it x c.args.n.now ≡ true = ap (λ (y : Node). nodes.eq-value.it y c.args.n.now) same ∙ node_eq_itself c.args.n.now in
    false≢true (sym c.if-eq.false ∙ c.eq.ensures ∙ t))
    (cases_lt i c.loop-i.i)
