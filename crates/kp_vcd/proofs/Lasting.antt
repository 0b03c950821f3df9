-- A signal that has a value has one at each time before.
use Rattle.std.proofs.Common.{◌≡◌, ℕ, zero, suc, ◌+◌, List, [], ◌∷◌, ◌++◌, get_or, None, Some, refl}
use Rattle.kp_bits.specs.Word.{Word, word}
use Rattle.kp_ast.specs.declared.tree.{Decl.Decl, Job.Job}
use Rattle.kp_ast.specs.declared.tree.Decl.TheVariants as decls
use Rattle.kp_pipeline.specs.Rows.{Row}
use Rattle.kp_vcd.specs.{Recording.Values, Recording.Lasts, Dumps.number, Dumps.output_values, Dumps.register_values, Dumps.values_at, Dumps.own_run}

abbrev Has : Values → ℕ → Type 0
Has values s = (v : Word) × (get_or values s None ≡ Some v)

registers_last : (f g : ℕ → ℕ) (t : ℕ) (ds : List Decl) (s : ℕ) (w : Word) → get_or (register_values f t ds) s None ≡ Some w → Has (register_values g t ds) s
registers_last f g t [] s w e = cc
registers_last f g t (decls.Reg n width start ∷ ds) zero w e = (word width.value (g t), refl)
registers_last f g t (decls.Reg n width start ∷ ds) (suc s) w e = registers_last f g (t + 1) ds s w e
registers_last f g t (decls.File n width address ∷ ds) s w e = registers_last f g (t + 1) ds s w e
registers_last f g t (_ ∷ ds) s w e = registers_last f g t ds s w e

-- the registers follow the outputs
both_last : (n : ℕ) (rows : List Row) (T : ℕ) (xs ys : Values) → ((s : ℕ) (w : Word) → get_or xs s None ≡ Some w → Has ys s)
    → (s : ℕ) (w : Word) → get_or (output_values n rows (suc T) ++ xs) s None ≡ Some w → Has (output_values n rows T ++ ys) s
both_last n [] T xs ys last zero w e = cc
both_last n [] T xs ys last (suc zero) w e = cc
both_last n [] T xs ys last (suc (suc zero)) w e = cc
both_last n [] T xs ys last (suc (suc (suc s))) w e = last s w e
both_last n (r ∷ []) zero xs ys last zero w e = cc
both_last n (r ∷ []) zero xs ys last (suc zero) w e = cc
both_last n (r ∷ []) zero xs ys last (suc (suc zero)) w e = cc
both_last n (r ∷ []) zero xs ys last (suc (suc (suc s))) w e = last s w e
both_last n (r ∷ x ∷ rows) zero xs ys last zero w e = (word n (number r.full), refl)
both_last n (r ∷ x ∷ rows) zero xs ys last (suc zero) w e = (word n (number r.ue), refl)
both_last n (r ∷ x ∷ rows) zero xs ys last (suc (suc zero)) w e = (word 4 r.back, refl)
both_last n (r ∷ x ∷ rows) zero xs ys last (suc (suc (suc s))) w e = last s w e
both_last n (r ∷ rows) (suc T) xs ys last s w e = both_last n rows T xs ys last s w e

pub run_lasts : (job : Job) (n : ℕ) → Lasts (values_at job (own_run job n)) n
run_lasts job n T s w h e =
    both_last job.stages.value (own_run job n).rows T (register_values (λ t. (own_run job n).visible (suc T) t 0) 0 job.decls)
    (register_values (λ t. (own_run job n).visible T t 0) 0 job.decls)
    (λ i v there. registers_last (λ t. (own_run job n).visible (suc T) t 0) (λ t. (own_run job n).visible T t 0) 0 job.decls i v there) s w e
