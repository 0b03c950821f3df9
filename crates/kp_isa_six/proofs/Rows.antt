-- Each row of the table.
use Rattle.std.proofs.Common.{◌≡◌, ◌∙◌, ℕ, ◌+◌, ◌-◌, ◌%◌, ◌^◌, Bool, true, false, cond, eqb, not, List, Option, refl, ap, sym, subst}
use Rattle.std.{proofs.Math.Path.fun_ext, specs.Prelude.bit_and, specs.Prelude.bit_or}
use Rattle.kp_bits.specs.Word.{word}
use Rattle.kp_ast.specs.declared.tree.Image.{Image}
use Rattle.kp_pipeline.specs.Sequential.{exec, seq}
use Rattle.kp_machine.specs.Machine.{machine_of, result_for}
use Rattle.kp_isa_six.specs.{Six.six, Isa.Executes, Isa.Runs, Isa.Cpu, Isa.Fields, Isa.fields, Isa.next, Isa.with_acc, Isa.stored, Isa.to, Isa.cpu_of}
use Rattle.kp_isa_six.proofs.Computes.{after, exec_is}

same_cpu : (c d : Cpu) → c.pc ≡ d.pc → c.acc ≡ d.acc → ((n : ℕ) → c.code n ≡ d.code n) → ((n : ℕ) → c.mem n ≡ d.mem n) → c ≡ d
same_cpu c d p a k m = λ i. record { pc = p i; acc = a i; code = fun_ext k i; mem = fun_ext m i }

-- a jump is taken where the accumulator isn't 0
taken : (is_zero : Bool) (x y : ℕ) → (cond (eqb (bit_and 1 (1 - cond is_zero 1 0)) 1) (word 5 x) (word 5 y)).value ≡ cond (not is_zero) x y
taken true x y = refl
taken false x y = refl

module _ (image : Option (List Image)) (q : ℕ → ℕ) (s : ℕ → ℕ → ℕ) where
  abbrev of_op : ℕ → Fields → Fields
  of_op o f = record { op = o; ad = f.ad }

  abbrev ends : Fields → Cpu
  ends f = cpu_of (after q s image f)

  abbrev c : Cpu
  c = cpu_of s

  by_op : (f : Fields) (o : ℕ) (d : Cpu) → f.op ≡ o → ends (of_op o f) ≡ d → ends f ≡ d
  by_op f o d e h = subst (λ (n : ℕ). ends (of_op n f) ≡ d) (sym e) h

  row_constant : (f : Fields) → ends (of_op 0 f) ≡ with_acc c f.ad
  unfolding machine_of result_for
  row_constant f = same_cpu (ends (of_op 0 f)) (with_acc c f.ad) refl refl (λ n. refl) (λ n. refl)

  row_load : (f : Fields) → ends (of_op 1 f) ≡ with_acc c (c.mem f.ad)
  unfolding machine_of result_for
  row_load f = same_cpu (ends (of_op 1 f)) (with_acc c (c.mem f.ad)) refl refl (λ n. refl) (λ n. refl)

  row_add : (f : Fields) → ends (of_op 2 f) ≡ with_acc c ((c.acc + c.mem f.ad) % 2 ^ 8)
  unfolding machine_of result_for
  row_add f = same_cpu (ends (of_op 2 f)) (with_acc c ((c.acc + c.mem f.ad) % 2 ^ 8)) refl refl (λ n. refl) (λ n. refl)

  row_store : (f : Fields) → ends (of_op 3 f) ≡ stored c f.ad
  unfolding machine_of result_for
  row_store f = same_cpu (ends (of_op 3 f)) (stored c f.ad) refl refl (λ n. refl) (λ n. refl)

  row_jump : (f : Fields) → ends (of_op 4 f) ≡ to c f.ad
  unfolding machine_of result_for
  row_jump f = same_cpu (ends (of_op 4 f)) (to c f.ad) refl refl (λ n. refl) (λ n. refl)

  row_jump_if : (f : Fields) → ends (of_op 5 f) ≡ to c (cond (not (eqb c.acc 0)) f.ad (next c))
  unfolding machine_of result_for
  row_jump_if f = same_cpu (ends (of_op 5 f)) (to c (cond (not (eqb c.acc 0)) f.ad (next c))) (taken (eqb (s 1 0) 0) f.ad (next c)) refl (λ n. refl) (λ n. refl)

  -- each row of the table is what the stages do
  row : (f : Fields) (d : Cpu) → Executes c f d → ends f ≡ d
  row f _ (Executes.constant e) = by_op f 0 _ e (row_constant f)
  row f _ (Executes.load e) = by_op f 1 _ e (row_load f)
  row f _ (Executes.add e) = by_op f 2 _ e (row_add f)
  row f _ (Executes.store e) = by_op f 3 _ e (row_store f)
  row f _ (Executes.jump e) = by_op f 4 _ e (row_jump f)
  row f _ (Executes.jump_if e) = by_op f 5 _ e (row_jump_if f)

-- one instruction of the sequential machine
pub step : (image : Option (List Image)) (q : ℕ → ℕ) (s : ℕ → ℕ → ℕ) (c : Cpu) → Executes (cpu_of s) (fields (s 2 (s 0 0))) c
    → cpu_of (exec (machine_of (six image)) s q) ≡ c
step image q s c e =
    (λ j. record {
      pc = exec_is q s image 0 0 j;
      acc = exec_is q s image 1 0 j;
      code = λ n. exec_is q s image 2 n j;
      mem = λ n. exec_is q s image 3 n j;
    })
    ∙ row image q s (fields (s 2 (s 0 0))) c e

-- n instructions
pub runs : (image : Option (List Image)) (given : ℕ → ℕ → ℕ) (s : ℕ → ℕ → ℕ) (n : ℕ) (c : Cpu) → Runs (cpu_of s) n c
    → cpu_of (seq (machine_of (six image)) s given n) ≡ c
unfolding seq
runs image given s _ _ Runs.begins = refl
runs image given s _ _ (Runs.goes_on {n = n} {d = d} {e = e} r x) =
    let before = seq (machine_of (six image)) s given n in
    let same : cpu_of before ≡ d = runs image given s n d r in
    step image (given n) before e (subst (λ (d : Cpu). Executes d (fields (d.code d.pc)) e) (sym same) x)
