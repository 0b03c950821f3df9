-- The length of a line, and the number of instructions.
use Rattle.std.specs.Prelude.{ℕ, ◌+◌, if◌then◌else◌, List, [], ◌∷◌, Bool, true, false, count_by}
use Rattle.kp_asm.specs.{Program.is_line_end, declared.item.Item.Item, declared.token.Token.Token}
use Rattle.kp_asm.specs.declared.item.Item.TheVariants as items

-- the number of tokens of the first line, with its end
abbrev pub line_length : List Token → ℕ
line_length [] = 0
line_length (t ∷ ts) = if is_line_end t.kind then 1 else line_length ts + 1

-- an item that is an instruction, and the number of these
abbrev pub is_instruction : Item → Bool
is_instruction (items.Label label) = false
is_instruction (items.Instruction instruction) = true

abbrev pub instructions_in : List Item → ℕ
instructions_in items = count_by is_instruction items
