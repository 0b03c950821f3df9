use Rattle.std.proofs.Common.{◌≡◌, ◌∙◌, true, false, sym, arith}
use Rattle.kp_paths.{specs.Table.cell_at, specs.Arrows.is_shown, proofs.PictureSteps.count_next}
use Rattle.kp_paths.proofs.ends.arrow_count.Goals.{then-is_shown, else-is_shown}
use Rattle.kp_paths.proofs.ends.arrow_count.Goals as goal

pub loop-j-preserved : goal.loop-j-preserved
loop-j-preserved c =
    let within = rw c.stages-j-end.ensures at c.loop-j-test.true in
    let next = count_next c.args.paths.now c.args.read.now c.args.k c.args.paths.now.stages.value c.loop-j.j within in
    let reported = rw c.cell.ensures at c.is_shown.ensures in
    let kept = c.loop-j.invariant.value in
    let before = c.loop-j.invariant.few in
    elim c.if-is_shown.branch [
      | then-is_shown w ↦
          let on : is_shown (cell_at c.args.paths.now c.args.read.now c.args.k c.loop-j.j) ≡ true = sym reported ∙ w.if-is_shown.true in
          let one = rw on at next in
          record {
            value = omega (arith, kept, one, w.count-is);
            few = omega (arith, before, w.count-is);
          }
      | else-is_shown w ↦
          let off : is_shown (cell_at c.args.paths.now c.args.read.now c.args.k c.loop-j.j) ≡ false = sym reported ∙ w.if-is_shown.false in
          let none = rw off at next in
          record {
            value = omega (arith, kept, none, w.count-is);
            few = omega (arith, before, w.count-is);
          }
    ]
