-- The width of the value of an operator.
use Rattle.std.proofs.Common.{◌≡◌, ◌≤◌, ◌+◌, [], ◌∷◌, false, cond, ◌==◌, refl, ◌∙◌}
use Rattle.kp_bits.specs.{Word.Word, Word.IsWord, declared.operator.BinOp.BinOp, Operators.is_shift}
use Rattle.kp_bits.proofs.Operators as table
use Rattle.kp_width.specs.Soundness.{HasWidth}
use Rattle.kp_bits.specs.Operators as operators

-- operands that a binary operator takes
abbrev pub AreOperands : BinOp → Word → Word → Type 0
AreOperands op a b = is_shift op ≡ false → a.width ≡ b.width

pub binary_width : (op : BinOp) (a b : Word) → IsWord a → IsWord b → AreOperands op a b → HasWidth (operators.result_width op a.width) (operators.binary_of op a b)
binary_width op a b h k e = record { word = table.binary_word op a b h k e; width = table.binary_width op a b }
