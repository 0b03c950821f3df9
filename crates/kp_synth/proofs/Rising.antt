-- The rows of all targets, of which the first are done.
use Rattle.std.proofs.Common.{◌≡◌, ◌∙◌, ℕ, zero, suc, ◌+◌, ◌<◌, ◌≤◌, cond, List, [], ◌∷◌, length, get_or, slice_set, Option, Some, None, refl, sym, ap, subst, arith, ◌⊎◌, inl, inr, ⊎_elim}
use Rattle.std.{proofs.lemmas.Bool.cases_eq, proofs.lemmas.List.length-set, specs.Prelude.slice_get}
use Rattle.kp_ast.specs.declared.tree.Job.{Job}
use Rattle.kp_pipeline.specs.Pipeline.{candidate_hits, forwarded}
use Rattle.kp_machine.specs.{Machine.machine_of, Slots.targets_of}
use Rattle.kp_net.specs.Growth.{Held, Kept}
use Rattle.kp_synth_registers.{specs.declared.outcome.Set.Set, proofs.Growth.set_kept}
use Rattle.kp_design.specs.Numbers.{target_at}
use Rattle.kp_synth_stage.specs.{declared.row.Source.Source, Rows.SourceOk, Rows.SourcesOk}
use Rattle.kp_synth_stage.proofs.Nearest.{source_kept, source_view_kept}
use Rattle.kp_synth.specs.inner.{Seeing.Nearer, Whole.Few, Whole.AllNearer, Whole.SetMeans, Whole.SetsMean}

-- of the first t targets there may be a row more
unfoldable pub FewFrom : Job → ℕ → ℕ → List Source → Type 0
FewFrom job k t ss = (u : ℕ) (s : Source) → slice_get ss u ≡ Some s → (length s.rows.items + k ≤ job.stages.value) × (t ≤ u → length s.rows.items + suc k ≤ job.stages.value)

-- and from t on the targets are as they were
unfoldable pub SameFrom : ℕ → List Source → List Source → Type 0
SameFrom t ss ss' = (u : ℕ) → t ≤ u → slice_get ss' u ≡ slice_get ss u

some_is : (x y : Source) → Some x ≡ Some y → x ≡ y
some_is x y e = cc

get_set_same : (ss : List Source) (t : ℕ) (s s' : Source) → slice_get (slice_set ss t s') t ≡ Some s → s ≡ s'
get_set_same [] t s s' e = cc
get_set_same (x ∷ xs) zero s s' e = cc
get_set_same (x ∷ xs) (suc t) s s' e = get_set_same xs t s s' e

get_set_other : (ss : List Source) (t u : ℕ) (s' : Source) → (u ≡ t → ⊥) → slice_get (slice_set ss t s') u ≡ slice_get ss u
get_set_other [] t u s' d = refl
get_set_other (x ∷ xs) zero zero s' d = absurd (d refl)
get_set_other (x ∷ xs) zero (suc u) s' d = refl
get_set_other (x ∷ xs) (suc t) zero s' d = refl
get_set_other (x ∷ xs) (suc t) (suc u) s' d = get_set_other xs t u s' (λ e. d (ap (λ (n : ℕ). suc n) e))

-- An entry after one is set is that one, or another one that was there.
set_cases : (ss : List Source) (t u : ℕ) (s' x : Source) → slice_get (slice_set ss t s') u ≡ Some x → ((u ≡ t) × (x ≡ s')) ⊎ ((u ≡ t → ⊥) × (slice_get ss u ≡ Some x))
set_cases ss t u s' x e = ⊎_elim
    (λ z. inl (z, get_set_same ss t x s' (ap (slice_get (slice_set ss t s')) (sym z) ∙ e)))
    (λ d. inr (d, sym (get_set_other ss t u s' d) ∙ e)) (cases_eq u t)

pub nearer_kept : (job : Job) (k t : ℕ) (p q r : Held) (m : ℕ) (s s' : Source) → Kept q r m → SourceOk job q t s' → Nearer job k t p s q s' → Nearer job k t p s r s'
unfolding Nearer
nearer_kept job k t p q r m s s' g ok near = λ c st i h a l. source_view_kept job c q r m t s' a g ok ∙ near c st i h a l

pub nearer_before : (job : Job) (k t : ℕ) (o p q : Held) (m : ℕ) (s s' : Source) → Kept o p m → SourceOk job o t s → Nearer job k t p s q s' → Nearer job k t o s q s'
unfolding Nearer
nearer_before job k t o p q m s s' g ok near = λ c st i h a l.
    near c st i h a l ∙ ap (λ (x : Option ℕ). cond (candidate_hits (machine_of job) st k t a) (forwarded (machine_of job) st i k t) x) (source_view_kept job c o p m t s a g ok)

pub few_begun : (job : Job) (k : ℕ) (ss : List Source) → Few job k ss → FewFrom job k 0 ss
unfolding Few FewFrom
few_begun job k ss h = λ u s e. (let x = h u s e in omega (arith, x), λ l. h u s e)

pub few_ended : (job : Job) (k t : ℕ) (ss : List Source) → FewFrom job k t ss → (j : ℕ) → k ≡ suc j → Few job j ss
unfolding Few FewFrom
few_ended job k t ss h j e = λ u s f. let x = (h u s f).0 in subst (λ n. length s.rows.items + n ≤ job.stages.value) e x

pub same_begun : (ss : List Source) → SameFrom 0 ss ss
unfolding SameFrom
same_begun ss = λ u l. refl

pub none_nearer : (job : Job) (k : ℕ) (p : Held) (ss : List Source) → AllNearer job k 0 p ss p ss
unfolding AllNearer
none_nearer job k p ss = λ t s s' l e f. absurd (omega arith)

-- target t is done; p, then q before it and r after it; os, then ss before it
module _ (job : Job) (k t : ℕ) (p q r : Held) (m n : ℕ) (g : Kept p q m) (g' : Kept q r n) (os ss : List Source) (s s' : Source) (at : slice_get ss t ≡ Some s)
    (was : SourcesOk job p os) (ok : SourcesOk job q ss) (same : SameFrom t os ss) (ok' : SourceOk job r t s') where
  pub ok_set : SourcesOk job r (slice_set ss t s')
  ok_set = record {
    count = length-set ss t s' ∙ ok.count;
    each = λ u x e. ⊎_elim
        (λ z. subst (λ (w : Source). SourceOk job r u w) (sym z.1) (subst (λ (w : ℕ). SourceOk job r w s') (sym z.0) ok'))
        (λ z. source_kept job q r n u x g' (ok.each u x z.1))
        (set_cases ss t u s' x e);
  }

  pub few_set : FewFrom job k t ss → length s'.rows.items ≤ length s.rows.items + 1 → FewFrom job k (suc t) (slice_set ss t s')
  unfolding FewFrom
  few_set h few = λ u x e. ⊎_elim
      (λ z.
      let w = (h t s at).1 (omega arith) in
      (subst (λ (v : Source). length v.rows.items + k ≤ job.stages.value) (sym z.1) (omega (arith, w, few)), λ d. absurd (omega (arith, z.0, d))))
      (λ z. let y = h u x z.1 in (y.0, λ d. y.1 (omega (arith, d))))
      (set_cases ss t u s' x e)

  pub same_set : SameFrom (suc t) os (slice_set ss t s')
  unfolding SameFrom
  same_set = λ u l. get_set_other ss t u s' (λ z. absurd (omega (arith, l, z))) ∙ same u (omega (arith, l))

  pub nearer_set : AllNearer job k t p os q ss → Nearer job k t q s r s' → AllNearer job k (suc t) p os r (slice_set ss t s')
  unfolding AllNearer SameFrom
  nearer_set done near = λ u x x' l e f. ⊎_elim
      (λ z.
      let b : t ≤ u = omega (arith, z.0) in
      let w : x ≡ s = some_is x s (sym e ∙ sym (same u b) ∙ ap (slice_get ss) z.0 ∙ at) in
      let here = nearer_before job k t p q r m s s' g (was.each t s (sym (same t (omega arith)) ∙ at)) near in
      subst (λ (v : Source). Nearer job k u p x r v) (sym z.1) (subst (λ (v : Source). Nearer job k u p v r s') (sym w) (subst (λ (v : ℕ). Nearer job k v p s r s') (sym z.0) here)))
      (λ z. nearer_kept job k u p q r n x x' g' (ok.each u x' z.1) (done u x x' (let d = z.0 in omega (arith, l)) e z.1))
      (set_cases ss t u s' x' f)

pub set_means_kept : (job : Job) (k t : ℕ) (p q : Held) (m : ℕ) (ss : List (Option Set)) → Kept p q m → t < length (targets_of job.decls) → SetsMean job p k ss → SetMeans job q k t (get_or ss t None)
unfolding SetMeans
set_means_kept job k t p q m ss g l h = λ c st i y. set_kept c p q m (target_at job t).width (get_or ss t None) g (h.wires t) ∙ h.means t l c st i y
