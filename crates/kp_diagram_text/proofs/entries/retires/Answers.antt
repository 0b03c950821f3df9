use Rattle.std.proofs.Common.{◌∙◌, arith, refl, sym}
use Rattle.kp_diagram_text.proofs.Labelling.{ended, gone, leaves_later, leaves_now}
use Rattle.kp_diagram_text.proofs.entries.retires.Goals as goal

pub returns-in-None : goal.returns-in-None
returns-in-None c = sym (gone c.args.chart.now c.loop-cycle.cycle c.loop-cycle.place c.in-None.is) ∙ c.loop-cycle.invariant.same

pub returns-then-leaves : goal.returns-then-leaves
returns-then-leaves c =
    leaves_now c.args.chart.now c.loop-cycle.cycle _ _ c.loop-cycle-test.true refl _ _ c.loop-cycle.place _ c.in-Some.is c.mark_of-mark.ensures refl
    (sym c.if-leaves.true ∙ c.leaves.ensures)
    ∙ c.loop-cycle.invariant.same

pub loop-cycle-preserved : goal.loop-cycle-preserved
loop-cycle-preserved c = record {
  same = leaves_later c.args.chart.now c.loop-cycle.cycle _ _ c.loop-cycle-test.true refl _ _ c.loop-cycle.place _ c.in-Some.is c.mark_of-mark.ensures c.next_place-place.ensures.place
      (sym c.if-leaves.false ∙ c.leaves.ensures)
      ∙ c.loop-cycle.invariant.same;
  within = c.next_place-place.ensures.within;
}

pub returns : goal.returns
returns c = sym (ended c.args.chart.now c.loop-cycle.cycle c.loop-cycle.place (omega arith)) ∙ c.loop-cycle.invariant.same
