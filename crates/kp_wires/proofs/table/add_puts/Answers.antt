use Rattle.std.proofs.Common.{◌≡◌, ◌∙◌, ◌+◌, ◌++◌, ℕ, suc, List, None, get_or, ap, append_assoc, arith}
use Rattle.kp_wires.specs.{Table.below, Table.wire_of, declared.wire.Signal.TheVariants.Put, declared.wire.Wire.Wire}
use Rattle.kp_wires.proofs.table.add_puts.Goals as goal

pub loop-x-preserved : goal.loop-x-preserved
loop-x-preserved c =
    let f : ℕ → List Wire = λ n. wire_of c.args.net.now c.args.k (Put n) (get_or c.args.outcome.now.puts n None) in
    let old : List Wire = c.args.wires.now.items in
    let z : suc c.loop-x.x ≡ c.loop-x.x + 1 = omega arith in
    c.in_ok-add_put.ensures ∙ ap (λ (ws : List Wire). ws ++ f c.loop-x.x) c.loop-x.invariant ∙ append_assoc old (below f c.loop-x.x) (f c.loop-x.x)
    ∙ ap (λ n. old ++ below f n) z
