-- Where the words are those of RV32I, the description does what examples/riscv/rv32i.kp does.
use Rattle.std.proofs.Common.{◌≡◌, ℕ, Option, List, refl, ap, sym, subst, eqb}
use Rattle.kp_ast.specs.declared.tree.Image.{Image}
use Rattle.kp_machine.specs.Machine.{machine_of, result_for}
use Rattle.kp_isa_rv.specs.Isa.{Executes, Cpu, word_at, bits, rd, rs1, rs2, funct3, funct7, opcode, cpu_of}
use Rattle.kp_isa_rv.proofs.Decoding.{Fields, fields}
use Rattle.kp_isa_rv.proofs.Computes.{after as after_base}
use Rattle.kp_isa_rvm.proofs.Computes.{after}

module _ (image : Option (List Image)) (q : ℕ → ℕ) (s : ℕ → ℕ → ℕ) where
  abbrev i : ℕ
  i = s 1 (word_at (s 0 0))

  -- Both leave the same program counter, program, registers and words of the memory.
  pub record Same (f : Fields) (g : ℕ) : Type 0 where
    pub pc : after q s image f g 0 0 ≡ after_base q s image f 0 0
    pub code : (n : ℕ) → after q s image f g 1 n ≡ after_base q s image f 1 n
    pub regs : (n : ℕ) → after q s image f g 2 n ≡ after_base q s image f 2 n
    pub words : (n : ℕ) → after q s image f g 3 n ≡ after_base q s image f 3 n

  abbrev of : ℕ → Fields
  of o = record { op = o; is_load = eqb o 3; f3 = funct3 i; b30 = bits i 30 30; rd = rd i; rs1 = rs1 i; rs2 = rs2 i }

  same_lui : (g : ℕ) → Same (of 0x37) g
  unfolding machine_of result_for
  same_lui g = record { pc = refl; code = λ n. refl; regs = λ n. refl; words = λ n. refl }

  same_auipc : (g : ℕ) → Same (of 0x17) g
  unfolding machine_of result_for
  same_auipc g = record { pc = refl; code = λ n. refl; regs = λ n. refl; words = λ n. refl }

  same_jal : (g : ℕ) → Same (of 0x6f) g
  unfolding machine_of result_for
  same_jal g = record { pc = refl; code = λ n. refl; regs = λ n. refl; words = λ n. refl }

  same_jalr : (g : ℕ) → Same (of 0x67) g
  unfolding machine_of result_for
  same_jalr g = record { pc = refl; code = λ n. refl; regs = λ n. refl; words = λ n. refl }

  same_branch : (g : ℕ) → Same (of 0x63) g
  unfolding machine_of result_for
  same_branch g = record { pc = refl; code = λ n. refl; regs = λ n. refl; words = λ n. refl }

  same_imm : (g : ℕ) → Same (of 0x13) g
  unfolding machine_of result_for
  same_imm g = record { pc = refl; code = λ n. refl; regs = λ n. refl; words = λ n. refl }

  same_load : (g : ℕ) → Same (of 0x03) g
  unfolding machine_of result_for
  same_load g = record { pc = refl; code = λ n. refl; regs = λ n. refl; words = λ n. refl }

  same_store : (g : ℕ) → Same (of 0x23) g
  unfolding machine_of result_for
  same_store g = record { pc = refl; code = λ n. refl; regs = λ n. refl; words = λ n. refl }

  same_fence : (g : ℕ) → Same (of 0x0f) g
  unfolding machine_of result_for
  same_fence g = record { pc = refl; code = λ n. refl; regs = λ n. refl; words = λ n. refl }

  same_stop : (g : ℕ) → Same (of 0x73) g
  unfolding machine_of result_for
  same_stop g = record { pc = refl; code = λ n. refl; regs = λ n. refl; words = λ n. refl }

  same_reg : Same (of 0x33) 0x00
  unfolding machine_of result_for
  same_reg = record { pc = refl; code = λ n. refl; regs = λ n. refl; words = λ n. refl }

  same_reg_other : Same (of 0x33) 0x20
  unfolding machine_of result_for
  same_reg_other = record { pc = refl; code = λ n. refl; regs = λ n. refl; words = λ n. refl }

  by : (o : ℕ) → opcode i ≡ o → Same (of o) (funct7 i) → Same (fields i) (funct7 i)
  by o e h = subst (λ (n : ℕ). Same (of n) (funct7 i)) (sym e) h

  by_reg : (g : ℕ) → opcode i ≡ 0x33 → funct7 i ≡ g → Same (of 0x33) g → Same (fields i) (funct7 i)
  by_reg g e f h = by 0x33 e (subst (λ (n : ℕ). Same (of 0x33) n) (sym f) h)

  pub same : (d : Cpu) → Executes (cpu_of s) i d → Same (fields i) (funct7 i)
  same _ (Executes.lui e) = by 0x37 e (same_lui (funct7 i))
  same _ (Executes.auipc e) = by 0x17 e (same_auipc (funct7 i))
  same _ (Executes.jal e h) = by 0x6f e (same_jal (funct7 i))
  same _ (Executes.jalr e f h) = by 0x67 e (same_jalr (funct7 i))
  same _ (Executes.beq e f h) = by 0x63 e (same_branch (funct7 i))
  same _ (Executes.bne e f h) = by 0x63 e (same_branch (funct7 i))
  same _ (Executes.blt e f h) = by 0x63 e (same_branch (funct7 i))
  same _ (Executes.bge e f h) = by 0x63 e (same_branch (funct7 i))
  same _ (Executes.bltu e f h) = by 0x63 e (same_branch (funct7 i))
  same _ (Executes.bgeu e f h) = by 0x63 e (same_branch (funct7 i))
  same _ (Executes.addi e f) = by 0x13 e (same_imm (funct7 i))
  same _ (Executes.slti e f) = by 0x13 e (same_imm (funct7 i))
  same _ (Executes.sltiu e f) = by 0x13 e (same_imm (funct7 i))
  same _ (Executes.xori e f) = by 0x13 e (same_imm (funct7 i))
  same _ (Executes.ori e f) = by 0x13 e (same_imm (funct7 i))
  same _ (Executes.andi e f) = by 0x13 e (same_imm (funct7 i))
  same _ (Executes.slli e f g) = by 0x13 e (same_imm (funct7 i))
  same _ (Executes.srli e f g) = by 0x13 e (same_imm (funct7 i))
  same _ (Executes.srai e f g) = by 0x13 e (same_imm (funct7 i))
  same _ (Executes.add e f g) = by_reg 0x00 e g same_reg
  same _ (Executes.sub e f g) = by_reg 0x20 e g same_reg_other
  same _ (Executes.sll e f g) = by_reg 0x00 e g same_reg
  same _ (Executes.slt e f g) = by_reg 0x00 e g same_reg
  same _ (Executes.sltu e f g) = by_reg 0x00 e g same_reg
  same _ (Executes.xor e f g) = by_reg 0x00 e g same_reg
  same _ (Executes.srl e f g) = by_reg 0x00 e g same_reg
  same _ (Executes.sra e f g) = by_reg 0x20 e g same_reg_other
  same _ (Executes.or e f g) = by_reg 0x00 e g same_reg
  same _ (Executes.and e f g) = by_reg 0x00 e g same_reg
  same _ (Executes.lb e f) = by 0x03 e (same_load (funct7 i))
  same _ (Executes.lbu e f) = by 0x03 e (same_load (funct7 i))
  same _ (Executes.lh e f h) = by 0x03 e (same_load (funct7 i))
  same _ (Executes.lw e f h) = by 0x03 e (same_load (funct7 i))
  same _ (Executes.lhu e f h) = by 0x03 e (same_load (funct7 i))
  same _ (Executes.sb e f) = by 0x23 e (same_store (funct7 i))
  same _ (Executes.sh e f h) = by 0x23 e (same_store (funct7 i))
  same _ (Executes.sw e f h) = by 0x23 e (same_store (funct7 i))
  same _ (Executes.fence e f) = by 0x0f e (same_fence (funct7 i))
  same _ (Executes.ecall e) = by 0x73 (ap (λ (n : ℕ). bits n 6 0) e) (same_stop (funct7 i))
  same _ (Executes.ebreak e) = by 0x73 (ap (λ (n : ℕ). bits n 6 0) e) (same_stop (funct7 i))
