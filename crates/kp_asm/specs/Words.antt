-- The word of each instruction: one line for each line of the table of instructions.
use Rattle.std.specs.Prelude.{ℕ, ◌+◌, ◌-◌, ◌*◌, ◌%◌, ◌^◌, List}
use Rattle.kp_asm.specs.{Numbers.register, Numbers.number, declared.mnemonic.Mnemonic.Mnemonic}
use Rattle.kp_asm.specs.declared.mnemonic.Mnemonic.TheVariants as mnemonics

-- opcode 0 in bits 31 to 26, RS1 in 25 to 21, RS2 in 20 to 16, RD in 15 to 11, the function in 5 to 0
abbrev pub r_form : (function rd rs1 rs2 : ℕ) → ℕ
r_form function rd rs1 rs2 = rs1 * 2 ^ 21 + rs2 * 2 ^ 16 + rd * 2 ^ 11 + function

-- the opcode in bits 31 to 26, RS1 in 25 to 21, RD in 20 to 16, the immediate in 15 to 0
abbrev pub i_form : (opcode rd rs1 immediate : ℕ) → ℕ
i_form opcode rd rs1 immediate = opcode * 2 ^ 26 + rs1 * 2 ^ 21 + rd * 2 ^ 16 + immediate

-- the opcode in bits 31 to 26, the immediate in 25 to 0
abbrev pub j_form : (opcode immediate : ℕ) → ℕ
j_form opcode immediate = opcode * 2 ^ 26 + immediate

-- the address of a label minus that of the next instruction, in this many bits
abbrev pub distance : (width label address : ℕ) → ℕ
distance width label address = (label + 2 ^ width - (address + 4) % 2 ^ width) % 2 ^ width

-- From the operands in order, the address of the label if one is used, and the address of the instruction.
abbrev pub word_of : Mnemonic → List ℕ → List ℕ → List ℕ → (label address : ℕ) → ℕ
word_of mnemonics.Add rd ra rb label address = r_form 0x20 (register rd) (register ra) (register rb)
word_of mnemonics.Sub rd ra rb label address = r_form 0x22 (register rd) (register ra) (register rb)
word_of mnemonics.And rd ra rb label address = r_form 0x24 (register rd) (register ra) (register rb)
word_of mnemonics.Or rd ra rb label address = r_form 0x25 (register rd) (register ra) (register rb)
word_of mnemonics.Xor rd ra rb label address = r_form 0x26 (register rd) (register ra) (register rb)
word_of mnemonics.Sll rd ra rb label address = r_form 0x04 (register rd) (register ra) (register rb)
word_of mnemonics.Srl rd ra rb label address = r_form 0x06 (register rd) (register ra) (register rb)
word_of mnemonics.Mul rd ra rb label address = r_form 0x18 (register rd) (register ra) (register rb)
word_of mnemonics.Seq rd ra rb label address = r_form 0x28 (register rd) (register ra) (register rb)
word_of mnemonics.Slt rd ra rb label address = r_form 0x2a (register rd) (register ra) (register rb)
word_of mnemonics.Nop a b c label address = 0
word_of mnemonics.Addi rd ra s label address = i_form 0x08 (register rd) (register ra) (number 16 s)
word_of mnemonics.Slti rd ra s label address = i_form 0x0a (register rd) (register ra) (number 16 s)
word_of mnemonics.Andi rd ra u label address = i_form 0x0c (register rd) (register ra) (number 16 u)
word_of mnemonics.Ori rd ra u label address = i_form 0x0d (register rd) (register ra) (number 16 u)
word_of mnemonics.Xori rd ra u label address = i_form 0x0e (register rd) (register ra) (number 16 u)
word_of mnemonics.Lhi rd u c label address = i_form 0x0f (register rd) 0 (number 16 u)
word_of mnemonics.Lw rd s ra label address = i_form 0x23 (register rd) (register ra) (number 16 s)
word_of mnemonics.Sw rd s ra label address = i_form 0x2b (register rd) (register ra) (number 16 s)
word_of mnemonics.Beqz ra b c label address = i_form 0x04 0 (register ra) (distance 16 label address)
word_of mnemonics.Bnez ra b c label address = i_form 0x05 0 (register ra) (distance 16 label address)
word_of mnemonics.J a b c label address = j_form 0x02 (distance 26 label address)
word_of mnemonics.Jal a b c label address = j_form 0x03 (distance 26 label address)
word_of mnemonics.Jr ra b c label address = i_form 0x16 0 (register ra) 0
word_of mnemonics.Jalr ra b c label address = i_form 0x17 0 (register ra) 0
word_of mnemonics.Word x b c label address = number 32 x
