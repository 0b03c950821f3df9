-- RV32IM: the rows of RV32I, and eight more for multiplication and division (The RISC-V Instruction Set Manual, volume I: Unprivileged ISA, chapter
-- "M" Extension for Integer Multiplication and Division). All values are numbers of 32 bits.
use Rattle.std.specs.Prelude.{◌≡◌, ℕ, suc, ◌+◌, ◌-◌, ◌*◌, ◌/◌, ◌%◌, ◌^◌, Bool, not, ◌==◌, if◌then◌else◌}
use Rattle.kp_isa_rv.specs.Isa.{Cpu, bits, opcode, funct3, funct7, rd, a, b, low, is_negative, into, word_at}
use Rattle.kp_isa_rv.specs.Isa.{Executes as ExecutesBase}

-- a number in two's complement, in 64 bits, and the upper 32 of 64 bits
abbrev pub wide : ℕ → ℕ
wide a = if is_negative a then a + (2 ^ 64 - 2 ^ 32) else a

abbrev pub upper : ℕ → ℕ
upper n = bits n 63 32

-- The quotient is rounded down, and by 0 it is the greatest number. The remainder by 0 is the dividend.
abbrev pub quotient : (dividend divisor : ℕ) → ℕ
quotient a b = if b == 0 then 2 ^ 32 - 1 else a / b

abbrev pub remainder : (dividend divisor : ℕ) → ℕ
remainder a b = if b == 0 then a else a % b

-- the absolute value of a number in two's complement, and the number with the other sign
abbrev pub size : ℕ → ℕ
size a = if is_negative a then 2 ^ 32 - a else a

abbrev pub opposite : ℕ → ℕ
opposite n = low (2 ^ 32 - n)

-- whether one of a and b is negative, and the other isn't
abbrev pub signs_differ : ℕ → ℕ → Bool
signs_differ a b = if is_negative a then not (is_negative b) else is_negative b

-- In two's complement the quotient is rounded towards 0, and by 0 it is -1. The remainder has the sign of the dividend, and by 0 it is the dividend.
-- The least number by -1 overflows: the quotient is the least number, and the remainder is 0.
abbrev pub signed_quotient : (dividend divisor : ℕ) → ℕ
signed_quotient a b = if b == 0 then 2 ^ 32 - 1 else if signs_differ a b then opposite (size a / size b) else size a / size b

abbrev pub signed_remainder : (dividend divisor : ℕ) → ℕ
signed_remainder a b = if b == 0 then a else if is_negative a then opposite (size a % size b) else size a % size b

-- THE TABLE. Instruction i leads from the state c to the state after it.
pub data Executes (c : Cpu) (i : ℕ) : Cpu → Type 0 where
  -- an instruction of RV32I
  base : {d : Cpu} → ExecutesBase c i d → Executes c i d
  -- multiplication: the lower half of the product, and the upper half where both operands are signed, the first, and none
  mul : opcode i ≡ 0x33 → funct3 i ≡ 0 → funct7 i ≡ 0x01 → Executes c i (into c (rd i) (low (a c i * b c i)))
  mulh : opcode i ≡ 0x33 → funct3 i ≡ 1 → funct7 i ≡ 0x01 → Executes c i (into c (rd i) (upper (wide (a c i) * wide (b c i))))
  mulhsu : opcode i ≡ 0x33 → funct3 i ≡ 2 → funct7 i ≡ 0x01 → Executes c i (into c (rd i) (upper (wide (a c i) * b c i)))
  mulhu : opcode i ≡ 0x33 → funct3 i ≡ 3 → funct7 i ≡ 0x01 → Executes c i (into c (rd i) (upper (a c i * b c i)))
  -- division
  div : opcode i ≡ 0x33 → funct3 i ≡ 4 → funct7 i ≡ 0x01 → Executes c i (into c (rd i) (signed_quotient (a c i) (b c i)))
  divu : opcode i ≡ 0x33 → funct3 i ≡ 5 → funct7 i ≡ 0x01 → Executes c i (into c (rd i) (quotient (a c i) (b c i)))
  rem : opcode i ≡ 0x33 → funct3 i ≡ 6 → funct7 i ≡ 0x01 → Executes c i (into c (rd i) (signed_remainder (a c i) (b c i)))
  remu : opcode i ≡ 0x33 → funct3 i ≡ 7 → funct7 i ≡ 0x01 → Executes c i (into c (rd i) (remainder (a c i) (b c i)))

-- A RUN of n instructions by the table, each of which is the word of the program at the program counter.
pub data Runs (c : Cpu) : ℕ → Cpu → Type 0 where
  begins : Runs c 0 c
  goes_on : {n : ℕ} {d e : Cpu} → Runs c n d → Executes d (d.code (word_at d.pc)) e → Runs c (suc n) e
