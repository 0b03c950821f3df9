use Rattle.std.{proofs.Common.◌≡◌, proofs.Common.◌++◌, proofs.Common.drop, specs.Prelude.codes}
use Rattle.kp_asm.specs.Image.{lines_from}
use Rattle.kp_asm.proofs.image.image_text.Given as goal

abbrev pub invariant-loop-i : goal.invariant-loop-i
invariant-loop-i l = l.text.items ++ lines_from l.i (drop l.i l.words) ≡ codes "image {\n" ++ lines_from 0 l.words
