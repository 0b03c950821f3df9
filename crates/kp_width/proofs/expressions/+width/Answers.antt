use Rattle.std.proofs.Common.{◌∙◌, ◌+◌, sym, ap, map, drop, arith}
use Rattle.kp_width.{specs.Expressions.part_of, specs.Expressions.sum_of, proofs.Sums.sum_turn}
use Rattle.kp_width.proofs.expressions.+width.Goals as goal

pub sum-loop-e-preserved : goal.sum-loop-e-preserved
sum-loop-e-preserved t c =
    let f = part_of c.args.decls.now c.args.done c.args.names.now in
    let es = c.args.es.now in
    let i = c.loop-e.e-index in (
      omega (arith, c.capped-all.ensures),
      ap (λ all. (sum_of all (map f (drop (i + 1) es))).found) c.capped-all.ensures
          ∙ sym (sum_turn f es i c.e-item.result c.loop-e.all c.in_ok-w.w c.loop-e-test.true c.e-item.is (sym c.in_ok-w.ensures))
          ∙ c.loop-e.invariant.1,
    )
