use Rattle.std.proofs.Common.{◌≡◌, ◌+◌, ◌-◌, ap, arith}
use Rattle.kp_diagram_text.{specs.Text.cycle_numbers, proofs.Steps.numbers_next, proofs.InOrder.up_next, proofs.InOrder.up_end}
use Rattle.kp_diagram_text.proofs.text.write_numbers.Goals as goal

pub loop-cycle-preserved : goal.loop-cycle-preserved
loop-cycle-preserved g c =
    up_next _ _ _ _ _ _ _ _ _ _ _ _ _ (numbers_next c.args.width c.args.count c.args.from c.loop-cycle.cycle c.loop-cycle-test.true) c.loop-cycle.invariant c.write_piece.ensures

pub returns : goal.returns
returns g c =
    let none : c.args.count - c.loop-cycle.cycle ≡ 0 = omega arith in
    up_end _ _ _ _ _ _ _ _ (ap (cycle_numbers c.args.width (c.args.from + c.loop-cycle.cycle)) none) c.loop-cycle.invariant
