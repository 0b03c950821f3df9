-- A machine that looks at no sample computes the same whatever the samples are.
use Rattle.std.proofs.Common.{◌≡◌, ◌∙◌, ℕ, zero, suc, List, [], ◌∷◌, ◌++◌, None, refl, ap, sym, arith}
use Rattle.std.proofs.lemmas.List.Sums.{sum_by-cons}
use Rattle.std.specs.Prelude.{cond, unwrap_or, Some, sum_by, slice_get}
use Rattle.kp_ast.specs.declared.tree.{Decl.Decl, Job.Job}
use Rattle.kp_ast.specs.declared.tree.Decl.TheVariants as decls
use Rattle.kp_stage.specs.{Counts.samples_in, Counts.summary_of, Facts.stmts_in, Start.start_of}
use Rattle.kp_pipeline.specs.Machine.{Machine, Tree}
use Rattle.kp_pipeline.specs.Sequential.{Instruction, run, after_stage, before_stage, is_written, exec, seq}
use Rattle.kp_machine.specs.{Slots.Slot, Slots.pipes_of, Slots.samples_of, Slots.sample_stages, Slots.words_of, Trees.Progress, Trees.entered, Trees.tree_of}
use Rattle.kp_machine.specs.Machine.{machine_of, stage_tree, state_of, sequential}

module _ (m : Machine) (same : (k : ℕ) (q r p : ℕ → ℕ) → m.body k q p ≡ m.body k r p) where
  before_same : (s : ℕ → ℕ → ℕ) (q r : ℕ → ℕ) (k : ℕ) → before_stage m s q k ≡ before_stage m s r k
  unfolding before_stage
  before_same s q r zero = refl
  before_same s q r (suc k) =
      ap (λ (c : Instruction). after_stage c (run (λ t a. Some (s t a)) (λ h. 0) (m.body k q c.pipes))) (before_same s q r k)
      ∙ ap (λ (tree : Tree). after_stage (before_stage m s r k) (run (λ t a. Some (s t a)) (λ h. 0) tree)) (same k q r (before_stage m s r k).pipes)

  exec_same : (s : ℕ → ℕ → ℕ) (q r : ℕ → ℕ) → exec m s q ≡ exec m s r
  exec_same s q r =
      let after : Instruction → ℕ → ℕ → ℕ = λ c t a. cond (is_written m c t a) (unwrap_or (c.results t) 0) (s t a) in
      ap after (before_same s q r m.stages)

  pub seq_same : (s : ℕ → ℕ → ℕ) (g h : ℕ → ℕ → ℕ) (i : ℕ) → seq m s g i ≡ seq m s h i
  unfolding seq
  seq_same s g h zero = refl
  seq_same s g h (suc i) = ap (λ (x : ℕ → ℕ → ℕ). exec m x (g i)) (seq_same s g h i) ∙ exec_same (seq m s h i) (g i) (h i)

-- if no sample is declared, none has a value or a stage
pub none_declared : (ds : List Decl) → sum_by samples_in ds ≡ 0 → (samples_of ds ≡ []) × (sample_stages ds ≡ [])
none_declared [] h = (refl, refl)
none_declared (decls.Sample n w s ∷ ds) h = let e = sum_by-cons samples_in (decls.Sample n w s) ds in absurd (omega (arith, e, h))
none_declared (d ∷ ds) h = let e = sum_by-cons samples_in d ds in none_declared ds (omega (arith, e, h))

-- so it is with the machine of a job that has no samples
module _ (job : Job) (none : (summary_of job).samples ≡ 0) where
  no_samples_of : samples_of job.decls ≡ []
  unfolding summary_of
  no_samples_of = (none_declared job.decls none).0

  entered_same : (q r p : ℕ → ℕ) → entered job.decls q p ≡ entered job.decls r p
  entered_same q r p =
      let with_slots : (ℕ → ℕ) → List Slot → Progress =
      λ f slots. record { names = words_of (pipes_of job.decls) p ++ words_of slots f; puts = λ x. None; sets = λ t. None; aims = λ hints h. None } in
      ap (with_slots q) no_samples_of ∙ sym (ap (with_slots r) no_samples_of)

  body_same : (k : ℕ) (q r p : ℕ → ℕ) → (machine_of job).body k q p ≡ (machine_of job).body k r p
  unfolding machine_of stage_tree
  body_same k q r p = ap (λ (done : Progress). tree_of job.decls done (stmts_in (slice_get job.blocks k))) (entered_same q r p)

  pub same_run : (given other : ℕ → ℕ → ℕ) (i : ℕ) → sequential job given i ≡ sequential job other i
  same_run given other i = seq_same (machine_of job) body_same (state_of job (start_of job)) given other i
