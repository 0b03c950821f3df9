use Rattle.std.proofs.Common.{◌++◌, ◌∷◌, [], sym, subst, arith}
use Rattle.std.proofs.lemmas.Result.{on_ok_weaker}
use Rattle.kp_net.specs.declared.node.Node.{Node}
use Rattle.kp_pool.{specs.inner.Numbers.Numbered, specs.inner.Numbers.IsIndex, proofs.Numbers.stays, proofs.Numbers.inserted}
use Rattle.kp_pool.proofs.index.Index.append.Goals as goal

pub returns-then-len-number : goal.returns-then-len-number
returns-then-len-number c =
    let ns = c.args.nodes.now in
    let t = c.self.inside.numbers.entries in
    let u = c.insert.new.self.entries in
    let h = subst (λ (x : Numbered). IsIndex x ns) (sym c.self.view_is) c.requires.indexes in
    subst (λ (x : Node). IsIndex u (ns ++ x ∷ [])) c.copied-copy.ensures
    (inserted ns c.copied-copy.result t u c.insert.result _ h (omega (arith, c.len.ensures.len, c.if-len-number.true)) (omega (arith, c.requires.few))
    (on_ok_weaker c.insert.result (λ k. k.0) c.insert.ensures.updates) c.insert.ensures.len c.insert.ensures.err)

pub returns-else-len-number : goal.returns-else-len-number
returns-else-len-number c =
    let ns = c.args.nodes.now in
    subst (λ (x : Numbered). IsIndex x (ns ++ c.args.n.now ∷ [])) c.self.view_is
    (stays ns c.args.n.now c.self.inside.numbers.entries (subst (λ (x : Numbered). IsIndex x ns) (sym c.self.view_is) c.requires.indexes))
