-- Each row of multiplication and division.
use Rattle.std.proofs.Common.{◌≡◌, ◌∙◌, ℕ, ◌-◌, ◌*◌, ◌%◌, ◌^◌, ◌<◌, false, cond, eqb, Option, List, refl, ap}
use Rattle.std.specs.{Prelude.◌&&◌, Prelude.bit_and}
use Rattle.kp_ast.specs.declared.tree.Image.{Image}
use Rattle.kp_machine.specs.Machine.{machine_of, result_for}
use Rattle.kp_isa_rv.specs.Isa.{Cpu, word_at, bits, rd, rs1, rs2, low, next, cpu_of}
use Rattle.kp_isa_rv.proofs.{Decoding.Fields, Numbers.next_kept}
use Rattle.kp_isa_rvm.specs.Isa.{wide, upper, quotient, remainder, signed_quotient, signed_remainder}
use Rattle.kp_isa_rvm.proofs.Computes.{after}
use Rattle.kp_isa_rvm.proofs.Products.{less, lower_half, signed, half_signed, unsigned}
use Rattle.kp_isa_rvm.proofs.Signs.{if_negative, quotient_is, remainder_is, signed_quotient_is, signed_remainder_is}

module _ (image : Option (List Image)) (q : ℕ → ℕ) (s : ℕ → ℕ → ℕ) where
  abbrev c : Cpu
  c = cpu_of s

  -- the instruction, and its operands
  abbrev i : ℕ
  i = s 1 (word_at (s 0 0))

  abbrev x : ℕ
  x = cond (eqb (rs1 i) 0) 0 (s 2 (rs1 i))

  abbrev y : ℕ
  y = cond (eqb (rs2 i) 0) 0 (s 2 (rs2 i))

  abbrev pub of : ℕ → Fields
  of t = record { op = 0x33; is_load = false; f3 = t; b30 = bits i 30 30; rd = rd i; rs1 = rs1 i; rs2 = rs2 i }

  -- the registers after v is written
  abbrev pub gets : ℕ → ℕ → ℕ
  gets n v = cond (eqb (bit_and 1 (1 - cond (eqb (rd i) 0) 1 0)) 1 && eqb (rd i) n) v (s 2 n)

  -- Row t of the eight writes v.
  pub record Writes (t v : ℕ) : Type 0 where
    pub pc : after q s image (of t) 1 0 0 ≡ next c
    pub code : (n : ℕ) → after q s image (of t) 1 1 n ≡ s 1 n
    pub regs : (n : ℕ) → after q s image (of t) 1 2 n ≡ gets n v
    pub words : (n : ℕ) → after q s image (of t) 1 3 n ≡ s 3 n

  module _ (al : s 0 0 % 4 ≡ 0) (fx : x < 2 ^ 32) (fy : y < 2 ^ 32) where
    pub row_mul : Writes 0 (low (x * y))
    unfolding machine_of result_for
    row_mul = record { pc = next_kept (s 0 0) al; code = λ n. refl; regs = λ n. ap (gets n) (lower_half (x * y)); words = λ n. refl }

    pub row_mulh : Writes 1 (upper (wide x * wide y))
    unfolding machine_of result_for
    row_mulh = record { pc = next_kept (s 0 0) al; code = λ n. refl; regs = λ n. ap (gets n) ((λ j. less (x * y) (if_negative x y 0 fx j) (if_negative y x 0 fy j)) ∙ signed x y fx fy); words = λ n. refl }

    pub row_mulhsu : Writes 2 (upper (wide x * y))
    unfolding machine_of result_for
    row_mulhsu = record { pc = next_kept (s 0 0) al; code = λ n. refl; regs = λ n. ap (gets n) (ap (λ (n : ℕ). less (x * y) n 0) (if_negative x y 0 fx) ∙ half_signed x y fx fy); words = λ n. refl }

    pub row_mulhu : Writes 3 (upper (x * y))
    unfolding machine_of result_for
    row_mulhu = record { pc = next_kept (s 0 0) al; code = λ n. refl; regs = λ n. ap (gets n) (unsigned x y); words = λ n. refl }

    pub row_div : Writes 4 (signed_quotient x y)
    unfolding machine_of result_for
    row_div = record { pc = next_kept (s 0 0) al; code = λ n. refl; regs = λ n. ap (gets n) (signed_quotient_is x y fx fy); words = λ n. refl }

    pub row_divu : Writes 5 (quotient x y)
    unfolding machine_of result_for
    row_divu = record { pc = next_kept (s 0 0) al; code = λ n. refl; regs = λ n. ap (gets n) (quotient_is x y fx fy); words = λ n. refl }

    pub row_rem : Writes 6 (signed_remainder x y)
    unfolding machine_of result_for
    row_rem = record { pc = next_kept (s 0 0) al; code = λ n. refl; regs = λ n. ap (gets n) (signed_remainder_is x y fx fy); words = λ n. refl }

    pub row_remu : Writes 7 (remainder x y)
    unfolding machine_of result_for
    row_remu = record { pc = next_kept (s 0 0) al; code = λ n. refl; regs = λ n. ap (gets n) (remainder_is x y fx fy); words = λ n. refl }
