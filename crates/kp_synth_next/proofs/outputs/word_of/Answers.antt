use Rattle.std.proofs.{Common.◌≡◌, Common.◌∙◌, Common.◌-◌, Common.ℕ, Common.List, Common.ap, Common.arith, lemmas.List.get_or-take}
use Rattle.kp_net.specs.{declared.node.NodeId.NodeId, Nodes.on}
use Rattle.kp_synth_registers.specs.Meaning.{node_at}
use Rattle.kp_synth_next.proofs.outputs.word_of.Goals as goal

pub returns-clause-bits : goal.returns-clause-bits
returns-clause-bits c = λ x k l.
    let j : ℕ = c.args.n - 1 - k in
    let b = c.joined.ensures.bits x k j (omega arith) in
    let e : node_at c.new-parts.result j ≡ node_at c.reversed-parts.result j = ap (λ (ns : List NodeId). node_at ns j) c.new-parts.ensures ∙ get_or-take c.args.n c.reversed-parts.result j _ (omega arith) in
    let z : c.args.n - 1 - j ≡ k = omega arith in
    let r : node_at c.reversed-parts.result j ≡ node_at c.args.bits.now k = c.reversed-parts.ensures j (omega arith) ∙ ap (node_at c.args.bits.now) z in
    b ∙ ap (λ (n : NodeId). on x c.args.pool.now.nodes n.0) (e ∙ r)
