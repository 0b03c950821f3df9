-- What is recorded depends only on the words that exist in the job.
use Rattle.std.proofs.Common.{◌≡◌, ℕ, zero, suc, ◌+◌, ◌<◌, ◌≤◌, ◌^◌, List, [], ◌∷◌, ◌++◌, drop, refl, ap, ap₂, arith, None}
use Rattle.kp_bits.specs.Word.{word}
use Rattle.kp_ast.specs.declared.tree.{Decl.Decl, Job.Job}
use Rattle.kp_ast.specs.declared.tree.Decl.TheVariants as decls
use Rattle.kp_debug.specs.Inspecting.{at_line}
use Rattle.kp_machine.specs.Slots.{targets_of}
use Rattle.kp_report.{specs.States.State, specs.Texts.register_line, proofs.Alike.Agree, proofs.Alike.word_is}
use Rattle.kp_report.proofs.Lines.{past_one, past_none}
use Rattle.kp_page.specs.States.{change_line, changes_of_words, change_lines, earlier, recorded_in, recorded_from, recorded}

words_alike : (name : List ℕ) (width : ℕ) (o p f g : ℕ → ℕ) (address n : ℕ) → ((a : ℕ) → a < address + n → o a ≡ p a) → ((a : ℕ) → a < address + n → f a ≡ g a)
    → changes_of_words name width o f address n ≡ changes_of_words name width p g address n
unfolding changes_of_words
words_alike name width o p f g address zero k h = refl
words_alike name width o p f g address (suc n) k h =
    ap₂ (λ (x y : List ℕ). x ++ y)
    (ap₂ (change_line name width address) (k address (omega arith)) (h address (omega arith)))
    (words_alike name width o p f g (address + 1) n (λ a l. k a (omega (arith, l))) (λ a l. h a (omega (arith, l))))

module _ (job : Job) where
  module _ (o p s u : State) (old : Agree job o p) (same : Agree job s u) where
    from : (t : ℕ) (ds : List Decl) → drop t (targets_of job.decls) ≡ targets_of ds → change_lines t o s ds ≡ change_lines t p u ds
    from t [] e = refl
    from t (decls.Reg n width start ∷ ds) e =
        ap₂ (λ (v : ℕ) (rest : List ℕ). register_line n.name (word width.value v) None ++ rest) (word_is job s u same t 0 _ _ e (omega arith)) (from (t + 1) ds (past_one (targets_of job.decls) t _ _ e))
    from t (decls.File n width address ∷ ds) e =
        ap₂ (λ (x y : List ℕ). x ++ y)
        (words_alike n.name width.value (o t) (p t) (s t) (u t) 0 (2 ^ address.value) (λ a h. word_is job o p old t a _ _ e (omega (arith, h))) (λ a h. word_is job s u same t a _ _ e (omega (arith, h))))
        (from (t + 1) ds (past_one (targets_of job.decls) t _ _ e))
    from t (_ ∷ ds) e = from (t + 0) ds (past_none (targets_of job.decls) t _ e)

  module _ (v w : ℕ → State) (n : ℕ) (same : (T : ℕ) → T ≤ n → Agree job (v T) (w T)) where
    earlier_same : (T : ℕ) → T ≤ n → Agree job (earlier v T) (earlier w T)
    earlier_same zero h t a word = refl
    earlier_same (suc T) h t a word = same T (omega (arith, h)) t a word

    in_same : (T : ℕ) → T ≤ n → recorded_in job.decls v T ≡ recorded_in job.decls w T
    in_same T h = ap (λ (text : List ℕ). at_line T ++ text) (from (earlier v T) (earlier w T) (v T) (w T) (earlier_same T h) (same T h) 0 job.decls refl)

    from_same : (T m : ℕ) → T + m ≤ n + 1 → recorded_from job.decls v T m ≡ recorded_from job.decls w T m
    from_same T zero h = refl
    from_same T (suc m) h = ap₂ (λ (x y : List ℕ). x ++ y) (in_same T (omega (arith, h))) (from_same (T + 1) m (omega (arith, h)))

    -- runs that agree in all states are recorded alike
    pub recorded_alike : recorded job.decls v n ≡ recorded job.decls w n
    recorded_alike = ap₂ (λ (x y : List ℕ). x ++ y) (in_same 0 (omega arith)) (from_same 1 n (omega arith))
