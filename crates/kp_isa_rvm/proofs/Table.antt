-- The table: what an instruction does by the stages is what it does by the table, and the state after it is again one in which the table applies.
use Rattle.std.proofs.Common.{◌≡◌, ◌∙◌, ℕ, ◌*◌, ◌%◌, ◌^◌, ◌<◌, cond, eqb, Option, List, ap, sym, subst, arith}
use Rattle.kp_ast.specs.declared.tree.Image.{Image}
use Rattle.kp_pipeline.specs.Sequential.{exec}
use Rattle.kp_machine.specs.Machine.{machine_of}
use Rattle.kp_isa_rv.specs.Isa.{IsState, Cpu, word_at, bits, rd, rs1, rs2, funct3, funct7, opcode, low, into, next, byte_in, cpu_of}
use Rattle.kp_isa_rv.specs.Isa.{Executes as ExecutesBase, a as ra, b as rb}
use Rattle.kp_isa_rv.specs.Rv32i.{rv32i}
use Rattle.kp_isa_rv.proofs.{Decoding.Fields, Decoding.fields, Numbers.gated}
use Rattle.kp_isa_rv.proofs.Computes.{exec_is as exec_is_base}
use Rattle.kp_isa_rv.proofs.Table as base_table
use Rattle.kp_isa_rv.proofs.Keeps as base_keeps
use Rattle.kp_isa_rvm.specs.Rv32im.{rv32im}
use Rattle.kp_isa_rvm.specs.Isa.{Executes, wide, upper, quotient, remainder, signed_quotient, signed_remainder}
use Rattle.kp_isa_rvm.proofs.{Computes.after, Computes.exec_is, Same.Same, Same.same}
use Rattle.kp_isa_rvm.proofs.Signs.{either_fits, quotient_fits, remainder_fits, signed_quotient_fits, signed_remainder_fits}
use Rattle.kp_isa_rvm.proofs.Rows as rows

-- what a state shows is decided by its values
shown : (s t : ℕ → ℕ → ℕ) → s 0 0 ≡ t 0 0 → ((n : ℕ) → s 1 n ≡ t 1 n) → ((n : ℕ) → s 2 n ≡ t 2 n) → ((n : ℕ) → s 3 n ≡ t 3 n) → cpu_of s ≡ cpu_of t
shown s t p c r w = λ j. record { pc = p j; regs = λ n. cond (eqb n 0) 0 (r n j); code = λ n. c n j; mem = λ n. byte_in (λ k. w k j) n }

moved : (s t : ℕ → ℕ → ℕ) → s 0 0 ≡ t 0 0 → ((n : ℕ) → s 2 n ≡ t 2 n) → ((n : ℕ) → s 3 n ≡ t 3 n) → IsState t → IsState s
moved s t p r w h = record {
  pc = subst (λ (n : ℕ). n < 2 ^ 32) (sym p) h.pc;
  aligned = ap (λ (n : ℕ). n % 4) p ∙ h.aligned;
  regs = λ k. subst (λ (n : ℕ). cond (eqb k 0) 0 n < 2 ^ 32) (sym (r k)) (h.regs k);
  words = λ k. subst (λ (n : ℕ). n < 2 ^ 32) (sym (w k)) (h.words k);
}

module _ (image : Option (List Image)) (q : ℕ → ℕ) (s : ℕ → ℕ → ℕ) (ok : IsState s) where
  abbrev c : Cpu
  c = cpu_of s

  abbrev i : ℕ
  i = s 1 (word_at (s 0 0))

  -- the state after the instruction, and that of examples/riscv/rv32i.kp
  abbrev t : ℕ → ℕ → ℕ
  t = exec (machine_of (rv32im image)) s q

  abbrev u : ℕ → ℕ → ℕ
  u = exec (machine_of (rv32i image)) s q

  abbrev of : ℕ → ℕ → Fields
  of o t = record { op = o; is_load = eqb o 3; f3 = t; b30 = bits i 30 30; rd = rd i; rs1 = rs1 i; rs2 = rs2 i }

  -- The state shows what the table says, and the table applies to it.
  record Goes (d : Cpu) : Type 0 where
    is : cpu_of t ≡ d
    state : IsState t

  -- a row of RV32I
  module _ (d : Cpu) (e : ExecutesBase c i d) where
    alike : Same image q s (fields i) (funct7 i)
    alike = same image q s d e

    pc : t 0 0 ≡ u 0 0
    pc = exec_is q s image 0 0 ∙ alike.pc ∙ sym (exec_is_base q s image 0 0)

    code : (n : ℕ) → t 1 n ≡ u 1 n
    code n = exec_is q s image 1 n ∙ alike.code n ∙ sym (exec_is_base q s image 1 n)

    regs : (n : ℕ) → t 2 n ≡ u 2 n
    regs n = exec_is q s image 2 n ∙ alike.regs n ∙ sym (exec_is_base q s image 2 n)

    words : (n : ℕ) → t 3 n ≡ u 3 n
    words n = exec_is q s image 3 n ∙ alike.words n ∙ sym (exec_is_base q s image 3 n)

    of_base : Goes d
    of_base = record { is = shown t u pc code regs words ∙ base_table.stepped image q s ok d e; state = moved t u pc regs words (base_keeps.keeps image q s ok d e) }

  -- a row of multiplication and division
  module _ (k v : ℕ) (e : opcode i ≡ 0x33) (f : funct3 i ≡ k) (g : funct7 i ≡ 0x01) (row : rows.Writes image q s k v) (small : v < 2 ^ 32) where
    -- the state by the fields of the row
    abbrev w : ℕ → ℕ → ℕ
    w = after q s image (rows.of image q s k) 1

    on_row : (n a : ℕ) → t n a ≡ w n a
    on_row n a =
        exec_is q s image n a
        ∙ ap (λ (o : ℕ). after q s image (of o (funct3 i)) (funct7 i) n a) e
        ∙ ap (λ (o : ℕ). after q s image (of 0x33 o) (funct7 i) n a) f
        ∙ ap (λ (o : ℕ). after q s image (of 0x33 k) o n a) g

    pc_is : t 0 0 ≡ next c
    pc_is = on_row 0 0 ∙ row.pc

    regs_are : (n : ℕ) → (cpu_of t).regs n ≡ (into c (rd i) v).regs n
    regs_are n = ap (λ (r : ℕ). cond (eqb n 0) 0 r) (on_row 2 n ∙ row.regs n) ∙ gated (rd i) n v (s 2 n)

    next_fits : next c < 2 ^ 32
    next_fits = omega arith

    next_aligned : next c % 4 ≡ 0
    next_aligned = let h : s 0 0 % 4 ≡ 0 = ok.aligned in omega arith

    of_row : Goes (into c (rd i) v)
    of_row = record {
      is = λ j. record {
        pc = pc_is j;
        regs = λ n. regs_are n j;
        code = λ n. (on_row 1 n ∙ row.code n) j;
        mem = λ n. byte_in (λ k. (on_row 3 k ∙ row.words k) j) n;
      };
      state = record {
        pc = subst (λ (n : ℕ). n < 2 ^ 32) (sym pc_is) next_fits;
        aligned = ap (λ (n : ℕ). n % 4) pc_is ∙ next_aligned;
        regs = λ n. subst (λ (n : ℕ). n < 2 ^ 32) (sym (regs_are n)) (either_fits _ v (c.regs n) small (ok.regs n));
        words = λ n. subst (λ (n : ℕ). n < 2 ^ 32) (sym (on_row 3 n ∙ row.words n)) (ok.words n);
      };
    }

  abbrev x : ℕ
  x = ra c i

  abbrev y : ℕ
  y = rb c i

  fx : x < 2 ^ 32
  fx = ok.regs (rs1 i)

  fy : y < 2 ^ 32
  fy = ok.regs (rs2 i)

  by_table : (d : Cpu) → Executes c i d → Goes d
  by_table d (Executes.base e) = of_base d e
  by_table _ (Executes.mul e f g) = of_row 0 (low (x * y)) e f g (rows.row_mul image q s ok.aligned fx fy) (omega arith)
  by_table _ (Executes.mulh e f g) = of_row 1 (upper (wide x * wide y)) e f g (rows.row_mulh image q s ok.aligned fx fy) (omega arith)
  by_table _ (Executes.mulhsu e f g) = of_row 2 (upper (wide x * y)) e f g (rows.row_mulhsu image q s ok.aligned fx fy) (omega arith)
  by_table _ (Executes.mulhu e f g) = of_row 3 (upper (x * y)) e f g (rows.row_mulhu image q s ok.aligned fx fy) (omega arith)
  by_table _ (Executes.div e f g) = of_row 4 (signed_quotient x y) e f g (rows.row_div image q s ok.aligned fx fy) (signed_quotient_fits x y fx)
  by_table _ (Executes.divu e f g) = of_row 5 (quotient x y) e f g (rows.row_divu image q s ok.aligned fx fy) (quotient_fits x y fx)
  by_table _ (Executes.rem e f g) = of_row 6 (signed_remainder x y) e f g (rows.row_rem image q s ok.aligned fx fy) (signed_remainder_fits x y fx)
  by_table _ (Executes.remu e f g) = of_row 7 (remainder x y) e f g (rows.row_remu image q s ok.aligned fx fy) (remainder_fits x y fx)

  -- one instruction of the machine
  pub stepped : (d : Cpu) → Executes c i d → cpu_of t ≡ d
  stepped d e = (by_table d e).is

  pub keeps : (d : Cpu) → Executes c i d → IsState t
  keeps d e = (by_table d e).state
