-- The mnemonics, the form of each, and the requirements on a token.
use Rattle.std.specs.Prelude.{ℕ, List, [], ◌∷◌, Option, Some, None, Bool, true, false, not, if◌then◌else◌, codes, find, map}
use Rattle.std.specs.List.{list_any}
use Rattle.std.specs.Str.{bytes_eq, str_eq_ignore_ascii_case}
use Rattle.kp_base.specs.First.{first}
use Rattle.kp_asm.specs.{Faults.ProgramFinding, Faults.broken, Tokens.bytes_of, Numbers.is_register, Numbers.is_low, Numbers.in_range, declared.token.Token.Token}
use Rattle.kp_asm.specs.declared.{token.TokenKind.TokenKind, mnemonic.Mnemonic.Mnemonic, mnemonic.Piece.Piece, operands.Rule.Rule, fault.ProgramFault.ProgramFault}
use Rattle.kp_asm.specs.declared.token.TokenKind.TheVariants as kinds
use Rattle.kp_asm.specs.declared.mnemonic.Mnemonic.TheVariants as mnemonics
use Rattle.kp_asm.specs.declared.mnemonic.Piece.TheVariants as pieces
use Rattle.kp_asm.specs.declared.operands.Rule.TheVariants as rules
use Rattle.kp_asm.specs.declared.fault.ProgramFault.TheVariants as faults

-- the text of a mnemonic
abbrev pub spelling : Mnemonic → List ℕ
spelling mnemonics.Add = codes "add"
spelling mnemonics.Sub = codes "sub"
spelling mnemonics.And = codes "and"
spelling mnemonics.Or = codes "or"
spelling mnemonics.Xor = codes "xor"
spelling mnemonics.Sll = codes "sll"
spelling mnemonics.Srl = codes "srl"
spelling mnemonics.Mul = codes "mul"
spelling mnemonics.Seq = codes "seq"
spelling mnemonics.Slt = codes "slt"
spelling mnemonics.Nop = codes "nop"
spelling mnemonics.Addi = codes "addi"
spelling mnemonics.Slti = codes "slti"
spelling mnemonics.Andi = codes "andi"
spelling mnemonics.Ori = codes "ori"
spelling mnemonics.Xori = codes "xori"
spelling mnemonics.Lhi = codes "lhi"
spelling mnemonics.Lw = codes "lw"
spelling mnemonics.Sw = codes "sw"
spelling mnemonics.Beqz = codes "beqz"
spelling mnemonics.Bnez = codes "bnez"
spelling mnemonics.J = codes "j"
spelling mnemonics.Jal = codes "jal"
spelling mnemonics.Jr = codes "jr"
spelling mnemonics.Jalr = codes "jalr"
spelling mnemonics.Word = codes ".word"

-- each mnemonic once
abbrev pub all_mnemonics : List Mnemonic
all_mnemonics =
    mnemonics.Add ∷ mnemonics.Sub ∷ mnemonics.And ∷ mnemonics.Or ∷ mnemonics.Xor ∷ mnemonics.Sll ∷ mnemonics.Srl ∷ mnemonics.Mul ∷ mnemonics.Seq
    ∷ mnemonics.Slt ∷ mnemonics.Nop ∷ mnemonics.Addi ∷ mnemonics.Slti ∷ mnemonics.Andi ∷ mnemonics.Ori ∷ mnemonics.Xori ∷ mnemonics.Lhi ∷ mnemonics.Lw
    ∷ mnemonics.Sw ∷ mnemonics.Beqz ∷ mnemonics.Bnez ∷ mnemonics.J ∷ mnemonics.Jal ∷ mnemonics.Jr ∷ mnemonics.Jalr ∷ mnemonics.Word ∷ []

-- the mnemonic with this text
abbrev pub mnemonic_of : List ℕ → Option Mnemonic
mnemonic_of run = find (λ m. bytes_eq run (spelling m)) all_mnemonics

-- it is a mnemonic, if upper and lower case are taken as the same
abbrev pub is_mnemonic_in_any_case : List ℕ → Bool
is_mnemonic_in_any_case run = list_any (λ m. str_eq_ignore_ascii_case (spelling m) run) all_mnemonics

-- `rd, ra, rb`
abbrev pub three_registers : List Piece
three_registers = pieces.Register ∷ pieces.Comma ∷ pieces.Register ∷ pieces.Comma ∷ pieces.Register ∷ pieces.End ∷ []

-- `rd, ra, s` and `rd, ra, u`
abbrev pub two_registers_and : Piece → List Piece
two_registers_and number = pieces.Register ∷ pieces.Comma ∷ pieces.Register ∷ pieces.Comma ∷ number ∷ pieces.End ∷ []

-- `rd, s(ra)`
abbrev pub displacement : List Piece
displacement = pieces.Register ∷ pieces.Comma ∷ pieces.Signed ∷ pieces.Open ∷ pieces.Register ∷ pieces.Close ∷ pieces.End ∷ []

-- what follows a mnemonic, up to the end of the line
abbrev pub form : Mnemonic → List Piece
form mnemonics.Add = three_registers
form mnemonics.Sub = three_registers
form mnemonics.And = three_registers
form mnemonics.Or = three_registers
form mnemonics.Xor = three_registers
form mnemonics.Sll = three_registers
form mnemonics.Srl = three_registers
form mnemonics.Mul = three_registers
form mnemonics.Seq = three_registers
form mnemonics.Slt = three_registers
form mnemonics.Nop = pieces.End ∷ []
form mnemonics.Addi = two_registers_and pieces.Signed
form mnemonics.Slti = two_registers_and pieces.Signed
form mnemonics.Andi = two_registers_and pieces.Unsigned
form mnemonics.Ori = two_registers_and pieces.Unsigned
form mnemonics.Xori = two_registers_and pieces.Unsigned
form mnemonics.Lhi = pieces.Register ∷ pieces.Comma ∷ pieces.Unsigned ∷ pieces.End ∷ []
form mnemonics.Lw = displacement
form mnemonics.Sw = displacement
form mnemonics.Beqz = pieces.Register ∷ pieces.Comma ∷ pieces.Label ∷ pieces.End ∷ []
form mnemonics.Bnez = pieces.Register ∷ pieces.Comma ∷ pieces.Label ∷ pieces.End ∷ []
form mnemonics.J = pieces.Label ∷ pieces.End ∷ []
form mnemonics.Jal = pieces.Label ∷ pieces.End ∷ []
form mnemonics.Jr = pieces.Register ∷ pieces.End ∷ []
form mnemonics.Jalr = pieces.Register ∷ pieces.End ∷ []
form mnemonics.Word = pieces.Any ∷ pieces.End ∷ []

-- a token is what the form requires
abbrev pub fits : Piece → TokenKind → List ℕ → Bool
fits pieces.Register kinds.Name bytes = is_register bytes
fits pieces.Label kinds.Name bytes = true
fits pieces.Signed kinds.Number bytes = true
fits pieces.Unsigned kinds.Number bytes = true
fits pieces.Any kinds.Number bytes = true
fits pieces.Comma kinds.Comma bytes = true
fits pieces.Open kinds.Open bytes = true
fits pieces.Close kinds.Close bytes = true
fits pieces.End kinds.LineEnd bytes = true
fits piece kind bytes = false

-- the register's number is at most 31
abbrev pub has_register : Piece → List ℕ → Bool
has_register pieces.Register bytes = is_low bytes
has_register piece bytes = true

-- the number is in its range: -32768 to 32767, 0 to 65535, -2147483648 to 4294967295
abbrev pub has_range : Piece → List ℕ → Bool
has_range pieces.Signed bytes = in_range 32768 32767 bytes
has_range pieces.Unsigned bytes = in_range 0 65535 bytes
has_range pieces.Any bytes = in_range 2147483648 4294967295 bytes
has_range piece bytes = true

-- a token violates the rule, at its index in the form
abbrev pub breaks : Rule → Piece → TokenKind → List ℕ → Bool
breaks rules.Form piece kind bytes = not (fits piece kind bytes)
breaks rules.Register piece kind bytes = not (has_register piece bytes)
breaks rules.Range piece kind bytes = not (has_range piece bytes)

-- A3, A4 or A5, of the operand that this piece of the form requires
abbrev pub operand_fault : Rule → Mnemonic → Piece → ProgramFault
operand_fault rules.Form mnemonic wanted = faults.WrongOperand mnemonic wanted
operand_fault rules.Register mnemonic wanted = faults.NoRegister
operand_fault rules.Range mnemonic wanted = faults.OutOfRange mnemonic wanted

-- the rule is reported at the first token that violates it
abbrev pub first_breaking : List ℕ → Mnemonic → Rule → List Piece → List Token → Option ProgramFinding
first_breaking text mnemonic rule [] tokens = None
first_breaking text mnemonic rule (piece ∷ more) [] = None
first_breaking text mnemonic rule (piece ∷ more) (token ∷ tokens) =
    if breaks rule piece token.kind (bytes_of text token) then Some (broken text (operand_fault rule mnemonic piece) token.start)
    else first_breaking text mnemonic rule more tokens

-- the first violated rule of the operands: A3 is checked on all tokens of the line, then A4, then A5
abbrev pub broken_operand : List ℕ → Mnemonic → List Token → Option ProgramFinding
broken_operand text mnemonic tokens =
    first (map (λ rule. first_breaking text mnemonic rule (form mnemonic) tokens) (rules.Form ∷ rules.Register ∷ rules.Range ∷ []))

abbrev pub is_colon : TokenKind → Bool
is_colon kinds.Colon = true
is_colon kind = false

-- the tokens begin with a `:`
abbrev pub begins_with_colon : List Token → Bool
begins_with_colon (token ∷ tokens) = is_colon token.kind
begins_with_colon [] = false

-- A2, of a name that is no mnemonic and the tokens after it
abbrev pub name_fault : List ℕ → List Token → ProgramFault
name_fault run operands =
    if begins_with_colon operands then faults.SecondLabel else if is_mnemonic_in_any_case run then faults.Capitals else faults.NoMnemonic

-- A2, of a token that is no mnemonic
abbrev pub misnamed : TokenKind → List ℕ → List Token → ProgramFault
misnamed kinds.Name run operands = name_fault run operands
misnamed kind run operands = faults.NoInstruction
