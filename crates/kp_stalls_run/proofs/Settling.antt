-- The values of samples in a cycle.
use Rattle.std.proofs.Common.{◌≡◌, ◌∙◌, ℕ, zero, suc, ◌+◌, ◌<◌, ◌≤◌, Bool, true, false, ◌&&◌, List, [], ◌∷◌, cond, eq-eqb, length, get_or, refl, ap, sym, arith, ⊎_elim}
use Rattle.std.proofs.lemmas.{Bool.and_right, Bool.cases_lt, Bool.ne_eqb, List.get_or_default, Option.same_Some}
use Rattle.std.specs.Prelude.{◌==◌, slice_get, Some}
use Rattle.kp_bits.specs.Word.{Word}
use Rattle.kp_ast.specs.declared.tree.Job.{Job}
use Rattle.kp_stage.specs.Start.{input}
use Rattle.kp_machine.specs.{Machine.values_in, Slots.sample_stages}
use Rattle.kp_run.specs.Columns.{Taken, row_taken, word_taken}
use Rattle.kp_stalls_run.specs.Runs.{settled, settles, settles_to}

-- ONE SAMPLE.
pub value_in : (row : List Word) (x : ℕ) (w : Word) → slice_get row x ≡ Some w → values_in row x ≡ w.value
value_in [] x w e = cc
value_in (v ∷ row) zero w e = ap (λ (y : Word). y.value) (same_Some v w e)
value_in (v ∷ row) (suc x) w e = value_in row x w e

pub value_taken : (columns : List Taken) (i x : ℕ) (d : Taken) → x < length columns → values_in (row_taken columns i) x ≡ (word_taken (get_or columns x d) i).value
value_taken [] i x d b = absurd (omega (arith, b))
value_taken (c ∷ columns) i zero d b = refl
value_taken (c ∷ columns) i (suc x) d b = value_taken columns i x d (omega (arith, b))

module _ (job : Job) (given : ℕ → ℕ → ℕ) (T k i x d : ℕ) (stages : List ℕ) (are : stages ≡ sample_stages job.decls) (b : x < length stages) where
  stage : get_or (sample_stages job.decls) x job.stages.value ≡ get_or stages x d
  stage = ap (λ xs. get_or xs x job.stages.value) (sym are) ∙ get_or_default stages x job.stages.value d b

  pub settles_there : get_or stages x d ≡ k → settles job given T k i x ≡ (values_in (input job T) x == given i x)
  settles_there e = ap (λ c. cond c (values_in (input job T) x == given i x) true) (eq-eqb (get_or (sample_stages job.decls) x job.stages.value) k (stage ∙ e))

-- ALL SAMPLES, one by one.
pub settled_more : (job : Job) (given : ℕ → ℕ → ℕ) (T k i n : ℕ) → settles_to job given T k i n ≡ true → settles job given T k i n ≡ true
    → settles_to job given T k i (n + 1) ≡ true
settled_more job given T k i n e f =
    let one : n + 1 ≡ suc n = omega arith in
    ap (settles_to job given T k i) one ∙ (λ j. e j && f j)

pub settled_all : (job : Job) (given : ℕ → ℕ → ℕ) (T k i n : ℕ) → n ≡ length (sample_stages job.decls) → settles_to job given T k i n ≡ true → true ≡ settled job given T k i
settled_all job given T k i n all e = sym e ∙ ap (settles_to job given T k i) all

-- once one differs, the samples do
differs : (job : Job) (given : ℕ → ℕ → ℕ) (T k i n m : ℕ) → n < m → settles job given T k i n ≡ false → settles_to job given T k i m ≡ false
differs job given T k i n zero b e = absurd (omega (arith, b))
differs job given T k i n (suc m) b e = ⊎_elim
    (λ (l : n < m). ap (λ c. c && settles job given T k i m) (differs job given T k i n m l e))
    (λ (l : m ≤ n).
    let same : n ≡ m = omega (arith, l, b) in
    ap (λ c. settles_to job given T k i m && c) (ap (settles job given T k i) (sym same) ∙ e) ∙ and_right (settles_to job given T k i m) false refl)
    (cases_lt n m)

pub unsettled : (job : Job) (given : ℕ → ℕ → ℕ) (T k i n : ℕ) → n < length (sample_stages job.decls) → settles job given T k i n ≡ false → false ≡ settled job given T k i
unsettled job given T k i n b e = sym (differs job given T k i n (length (sample_stages job.decls)) b e)
