-- The lines of a state depend only on the words that exist in the job.
use Rattle.std.proofs.Common.{◌≡◌, ℕ, zero, suc, ◌+◌, ◌<◌, ◌^◌, List, [], ◌∷◌, ◌++◌, drop, refl, ap₂, sym, subst, arith}
use Rattle.std.specs.declared.option.Option.{Option}
use Rattle.kp_bits.specs.Word.{word}
use Rattle.kp_ast.specs.declared.tree.{Decl.Decl, Job.Job}
use Rattle.kp_ast.specs.declared.tree.Decl.TheVariants as decls
use Rattle.kp_machine.specs.{Slots.Slot, Slots.targets_of, Words.HasWord}
use Rattle.kp_report.proofs.Lines.{slot_at, past_one, past_none}
use Rattle.kp_report.specs.{States.State, States.Behind, States.line_of_word, States.lines_of_words, States.state_lines, Texts.register_line}

words_alike : (name : List ℕ) (width : ℕ) (behind : Option ℕ) (f g : ℕ → ℕ) (address n : ℕ) → ((a : ℕ) → a < address + n → f a ≡ g a)
    → lines_of_words name width behind f address n ≡ lines_of_words name width behind g address n
unfolding lines_of_words
words_alike name width behind f g address zero h = refl
words_alike name width behind f g address (suc n) h =
    ap₂ (λ (v : ℕ) (rest : List ℕ). line_of_word name width behind address v ++ rest) (h address (omega arith))
    (words_alike name width behind f g (address + 1) n (λ a k. h a (omega arith)))

-- two states agree in all words of a job
abbrev pub Agree : Job → State → State → Type 0
Agree job s u = (t a : ℕ) → HasWord job t a → s t a ≡ u t a

pub word_is : (job : Job) (s u : State) → Agree job s u → (t a : ℕ) (x : Slot) (more : List Slot) → drop t (targets_of job.decls) ≡ x ∷ more → a < 2 ^ x.address → s t a ≡ u t a
word_is job s u same t a x more e h =
    let p = slot_at (targets_of job.decls) t x more e in
    same t a (record { target = p.0; address = subst (λ (y : Slot). a < 2 ^ y.address) (sym p.1) h })

module _ (job : Job) (behind : Behind) (s u : State) (same : Agree job s u) where
  from : (t : ℕ) (ds : List Decl) → drop t (targets_of job.decls) ≡ targets_of ds → state_lines t behind s ds ≡ state_lines t behind u ds
  from t [] e = refl
  from t (decls.Reg n width start ∷ ds) e =
      ap₂ (λ (v : ℕ) (rest : List ℕ). register_line n.name (word width.value v) (behind t) ++ rest) (word_is job s u same t 0 _ _ e (omega arith)) (from (t + 1) ds (past_one (targets_of job.decls) t _ _ e))
  from t (decls.File n width address ∷ ds) e =
      ap₂ (λ (x y : List ℕ). x ++ y) (words_alike n.name width.value (behind t) (s t) (u t) 0 (2 ^ address.value) (λ a h. word_is job s u same t a _ _ e (omega (arith, h))))
      (from (t + 1) ds (past_one (targets_of job.decls) t _ _ e))
  from t (_ ∷ ds) e = from (t + 0) ds (past_none (targets_of job.decls) t _ e)

  -- states that agree in all words of the job have the same lines
  pub lines_alike : state_lines 0 behind s job.decls ≡ state_lines 0 behind u job.decls
  lines_alike = from 0 job.decls refl
