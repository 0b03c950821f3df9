use Rattle.std.proofs.Common.{◌≡◌, ◌∙◌, ap, arith}
use Rattle.kp_vlog.specs.Scope.{width_in}
use Rattle.kp_vread.{specs.inner.Building.Numbers, proofs.Making.wire_made}
use Rattle.kp_vread.proofs.nodes.Made.wire.Goals as goal

pub overflow_cast-width : goal.overflow_cast-width
overflow_cast-width c =
    let n = c.args.target.now.name in
    let e : c.width-width.result ≡ width_in c.args.numbers.now.sizes n = c.width-width.ensures.width ∙ ap (λ (t : Numbers). width_in t.sizes n) c.numbers.view_is in
    omega (arith, e, c.requires.narrow.narrow n)

pub returns-clause-made : goal.returns-clause-made
returns-clause-made c = λ s m h i.
    let n = c.args.target.now.name in
    wire_made c.args.numbers.now s h c.args.self.now.wires c.add.new.self c.args.self.now.nodes.items c.push.new.self.items c.args.target.now c.args.right.now c.width-width.result c.in_ok-kind.kind
    (c.width-width.ensures.width ∙ ap (λ (t : Numbers). width_in t.sizes n) c.numbers.view_is) c.in_ok-kind.ensures c.in_ok-push.ensures.items c.in_ok-add.ensures.numbered m i
