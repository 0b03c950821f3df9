-- The descriptions with predictors execute the instructions of rv32i: they differ in guesses, hints and what these need.
use Rattle.std.proofs.Common.{◌≡◌, ◌∙◌, ℕ, zero, suc, Bool, true, false, cond, eqb, Option, Some, None, List, refl, ap, sym, arith}
use Rattle.std.{proofs.Math.Path.fun_ext, proofs.lemmas.Bool.Decides.nat_tests, specs.Prelude.unwrap_or, specs.Prelude.is_some, specs.Prelude.◌&&◌}
use Rattle.kp_ast.specs.declared.tree.{ResultDecl.ResultDecl, Image.Image, Job.Job}
use Rattle.kp_pipeline.specs.Sequential.{before_stage, intends, exec}
use Rattle.kp_machine.specs.Machine.{machine_of, result_for}
use Rattle.kp_isa_rv.specs.{Rv32i.n, Rv32i.k, Rv32i.rv32i, Rv32ib.rv32ib, Rv32ip.rv32ip}
use Rattle.kp_isa_rv.specs.Rv32ib.{parts as parts_ib, blocks as blocks_ib}
use Rattle.kp_isa_rv.specs.Rv32ip.{parts as parts_ip, blocks as blocks_ip}
use Rattle.kp_isa_rv.specs.Isa.{word_at}
use Rattle.kp_isa_rv.proofs.{Decoding.Fields, Decoding.fields, Computes.after_by, Computes.exec_by, Computes.after, Computes.exec_is}

-- The targets have the numbers 0 to 3, and no result has another one.
none_of : (a b c : Bool) (x y z : ResultDecl) → a ≡ false → b ≡ false → c ≡ false → cond a (Some x) (cond b (Some y) (cond c (Some z) None)) ≡ None
none_of a b c x y z e f g = λ i. cond (e i) (Some x) (cond (f i) (Some y) (cond (g i) (Some z) None))

differs0 : (t : ℕ) → eqb 0 (suc (suc (suc (suc t)))) ≡ false
differs0 t = grind (arith, nat_tests)

differs2 : (t : ℕ) → eqb 2 (suc (suc (suc (suc t)))) ≡ false
differs2 t = grind (arith, nat_tests)

differs3 : (t : ℕ) → eqb 3 (suc (suc (suc (suc t)))) ≡ false
differs3 t = grind (arith, nat_tests)

module _ (s : ℕ → ℕ → ℕ) (q : ℕ → ℕ) where
  unwritten : (job : Job) (t a : ℕ) → result_for job t ≡ None → exec (machine_of job) s q t a ≡ s t a
  unfolding machine_of
  unwritten job t a h =
      ap (λ (b : Bool). cond (b && intends (machine_of job) (before_stage (machine_of job) s q (machine_of job).stages) t a)
      (unwrap_or ((before_stage (machine_of job) s q (machine_of job).stages).results t) 0) (s t a)) (ap is_some h)

module _ (image : Option (List Image)) (s : ℕ → ℕ → ℕ) (q : ℕ → ℕ) where
  abbrev i : ℕ
  i = s 1 (word_at (s 0 0))

  -- Two descriptions write the same for these fields.
  pub record Alike (after_other : Fields → ℕ → ℕ → ℕ) (f : Fields) : Type 0 where
    pub pc : (a : ℕ) → after_other f 0 a ≡ after q s image f 0 a
    pub code : (a : ℕ) → after_other f 1 a ≡ after q s image f 1 a
    pub regs : (a : ℕ) → after_other f 2 a ≡ after q s image f 2 a
    pub words : (a : ℕ) → after_other f 3 a ≡ after q s image f 3 a

  -- these fields, of a load or of another instruction
  abbrev loading : Fields → Bool → Fields
  loading f load = record f { is_load = load }

  past : (t : ℕ) → result_for (rv32i image) (suc (suc (suc (suc t)))) ≡ None
  unfolding result_for
  past t = none_of _ _ _ _ _ _ (differs0 t) (differs2 t) (differs3 t)

  module _ (job : Job) (after_other : Fields → ℕ → ℕ → ℕ) (by : (t a : ℕ) → exec (machine_of job) s q t a ≡ after_other (fields i) t a)
      (alike : Alike after_other (fields i)) (past_other : (t : ℕ) → result_for job (suc (suc (suc (suc t)))) ≡ None) where
    target : (t a : ℕ) → exec (machine_of job) s q t a ≡ exec (machine_of (rv32i image)) s q t a
    target zero a = by 0 a ∙ alike.pc a ∙ sym (exec_is q s image 0 a)
    target (suc zero) a = by 1 a ∙ alike.code a ∙ sym (exec_is q s image 1 a)
    target (suc (suc zero)) a = by 2 a ∙ alike.regs a ∙ sym (exec_is q s image 2 a)
    target (suc (suc (suc zero))) a = by 3 a ∙ alike.words a ∙ sym (exec_is q s image 3 a)
    target (suc (suc (suc (suc t)))) a =
        unwritten s q job (suc (suc (suc (suc t)))) a (past_other t) ∙ sym (unwritten s q (rv32i image) (suc (suc (suc (suc t)))) a (past t))

    same : exec (machine_of job) s q ≡ exec (machine_of (rv32i image)) s q
    same = fun_ext (λ t. fun_ext (target t))

  -- rv32ib: the branch target buffer
  abbrev after_ib : Fields → ℕ → ℕ → ℕ
  after_ib f = after_by parts_ib blocks_ib q s (n 13 9 "rv32ib") (k 14 8 5) image f

  alike_ib : (f : Fields) (load : Bool) → Alike after_ib (loading f load)
  unfolding machine_of result_for
  alike_ib f true = record { pc = λ a. refl; code = λ a. refl; regs = λ a. refl; words = λ a. refl }
  alike_ib f false = record { pc = λ a. refl; code = λ a. refl; regs = λ a. refl; words = λ a. refl }

  past_ib : (t : ℕ) → result_for (rv32ib image) (suc (suc (suc (suc t)))) ≡ None
  unfolding result_for
  past_ib t = none_of _ _ _ _ _ _ (differs0 t) (differs2 t) (differs3 t)

  by_ib : (t a : ℕ) → exec (machine_of (rv32ib image)) s q t a ≡ after_ib (fields i) t a
  by_ib = exec_by parts_ib blocks_ib q s (n 13 9 "rv32ib") (k 14 8 5) image refl refl

  pub same_ib : exec (machine_of (rv32ib image)) s q ≡ exec (machine_of (rv32i image)) s q
  same_ib = same (rv32ib image) after_ib by_ib (alike_ib (fields i) (fields i).is_load) past_ib

  -- rv32ip: the branch predictor and the return stack
  abbrev after_ip : Fields → ℕ → ℕ → ℕ
  after_ip f = after_by parts_ip blocks_ip q s (n 12 9 "rv32ip") (k 13 8 5) image f

  alike_ip : (f : Fields) (load : Bool) → Alike after_ip (loading f load)
  unfolding machine_of result_for
  alike_ip f true = record { pc = λ a. refl; code = λ a. refl; regs = λ a. refl; words = λ a. refl }
  alike_ip f false = record { pc = λ a. refl; code = λ a. refl; regs = λ a. refl; words = λ a. refl }

  past_ip : (t : ℕ) → result_for (rv32ip image) (suc (suc (suc (suc t)))) ≡ None
  unfolding result_for
  past_ip t = none_of _ _ _ _ _ _ (differs0 t) (differs2 t) (differs3 t)

  by_ip : (t a : ℕ) → exec (machine_of (rv32ip image)) s q t a ≡ after_ip (fields i) t a
  by_ip = exec_by parts_ip blocks_ip q s (n 12 9 "rv32ip") (k 13 8 5) image refl refl

  pub same_ip : exec (machine_of (rv32ip image)) s q ≡ exec (machine_of (rv32i image)) s q
  same_ip = same (rv32ip image) after_ip by_ip (alike_ip (fields i) (fields i).is_load) past_ip
