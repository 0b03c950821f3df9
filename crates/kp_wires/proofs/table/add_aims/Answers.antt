use Rattle.std.proofs.Common.{◌≡◌, ◌∙◌, ◌+◌, ◌++◌, ℕ, suc, List, None, get_or, ap, append_assoc, arith}
use Rattle.kp_wires.specs.{Table.below, Table.wire_of, declared.wire.Signal.TheVariants.Aim, declared.wire.Wire.Wire}
use Rattle.kp_wires.proofs.table.add_aims.Goals as goal

pub loop-h-preserved : goal.loop-h-preserved
loop-h-preserved c =
    let f : ℕ → List Wire = λ n. wire_of c.args.net.now c.args.k (Aim n) (get_or c.args.outcome.now.aims n None) in
    let old : List Wire = c.args.wires.now.items in
    let z : suc c.loop-h.h ≡ c.loop-h.h + 1 = omega arith in
    c.in_ok-add_aim.ensures ∙ ap (λ (ws : List Wire). ws ++ f c.loop-h.h) c.loop-h.invariant ∙ append_assoc old (below f c.loop-h.h) (f c.loop-h.h)
    ∙ ap (λ n. old ++ below f n) z
