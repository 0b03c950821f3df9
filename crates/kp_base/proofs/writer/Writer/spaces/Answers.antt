use Rattle.std.proofs.{Common.◌≡◌, Common.ℕ, Common.ap, Common.arith, lemmas.List.take-replicate}
use Rattle.kp_base.{specs.Texts.spaces, proofs.Filling.spaces_next, proofs.Writing.up_next, proofs.Writing.up_end}
use Rattle.kp_base.proofs.writer.Writer.spaces.Goals as goal

pub loop-left-preserved : goal.loop-left-preserved
loop-left-preserved g c =
    let here = c.min-here.result in
    up_next _ _ _ _ _ _ _ (spaces_next c.loop-left.left here (omega (arith, c.min-here.ensures))) c.loop-left.invariant
    (rw (take-replicate {X = ℕ} here 64 32 (omega (arith, c.min-here.ensures))) at c.put.ensures)

pub returns : goal.returns
returns g c =
    let none : c.loop-left.left ≡ 0 = omega arith in
    up_end _ _ _ _ (ap spaces none) c.loop-left.invariant
