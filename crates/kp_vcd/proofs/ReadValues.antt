-- The values of the registers in a run fit their widths.
use Rattle.std.proofs.Common.{◌≡◌, ◌∙◌, ℕ, zero, suc, ◌+◌, ◌<◌, ◌≤◌, ◌^◌, List, [], ◌∷◌, length, get_or, Bool, true, false, Option, None, replicate, refl, ap, sym, subst, arith, map}
use Rattle.std.proofs.lemmas.{Bool.cond_both, List.length-replicate, Nat.pow_pos}
use Rattle.kp_base.specs.First.{first}
use Rattle.kp_bits.specs.Word.{Word, word}
use Rattle.kp_ast.specs.declared.tree.{Decl.Decl, Job.Job}
use Rattle.kp_ast.specs.declared.tree.Decl.TheVariants as decls
use Rattle.kp_width.specs.{Names.nothing, TextOrder.declared_names, Widths.widths_of}
use Rattle.kp_stage.specs.{Start.start_of, Start.input, Start.AreSamples, Stages.broken_of}
use Rattle.kp_image.specs.Sections.{sections_of}
use Rattle.kp_image.proofs.Given.{starts, rows_fit}
use Rattle.kp_pipeline.specs.{Machine.Machine, Pipeline.Inputs, Rows.Row, Rows.bit, Rows.one_if, Rows.taken_from, Rows.passed, Sequential.exec, Sequential.seq}
use Rattle.kp_machine.specs.Machine.{machine_of, state_of, sequential, pipe_of, taken_of, inputs_from, values_in}
use Rattle.kp_machine.{specs.Slots.targets_of, specs.Slots.pipes_of, specs.Slots.samples_of, proofs.Apart.Apart, proofs.Apart.samples_apart}
use Rattle.kp_machine.{proofs.Text.declared_right, proofs.Showing.shown, proofs.Showing.stays, specs.Words.no_slot, specs.Words.state_in}
use Rattle.kp_machine.proofs.Accepting as accepting
use Rattle.kp_run.proofs.Legal.{inputs_many}
use Rattle.kp_seq_plan.specs.Names.{keys_of}
use Rattle.kp_seq.specs.inner.{Tables.Laid, Tables.ports_of, Fits.FitSlots, Ready.AreTables, Ready.HasPlaces, Ready.words_of_start, Steps.Under, Steps.executed}
use Rattle.kp_seq.proofs.{Start.start_fits, Start.start_state, Start.word_fits, Step.step_state, Step.step_fits}

-- ---- the values of samples

-- the width of sample x, and 0 if the sample doesn't exist, which only the value 0 fits
abbrev width_of_sample : List Decl → ℕ → ℕ
width_of_sample ds x = (get_or (samples_of ds) x no_slot).width

row_below : (ds : List Decl) (row : List Word) → AreSamples ds row → (x : ℕ) → values_in row x < 2 ^ width_of_sample ds x
row_below [] [] h x = pow_pos 0
row_below [] (v ∷ row) h x = cc
row_below (decls.Sample n width stage ∷ ds) [] h x = absurd h
row_below (decls.Sample n width stage ∷ ds) (v ∷ row) h zero = subst (λ (w : ℕ). v.value < 2 ^ w) h.0 h.1.fits
row_below (decls.Sample n width stage ∷ ds) (v ∷ row) h (suc x) = row_below ds row h.2 x
row_below (_ ∷ ds) row h x = row_below ds row h x

-- the input vector with these values
abbrev row_of : (ℕ → ℕ) → List Decl → List Word
row_of q [] = []
row_of q (decls.Sample n width stage ∷ ds) = word width.value (q 0) ∷ row_of (λ x. q (suc x)) ds
row_of q (_ ∷ ds) = row_of q ds

row_samples : (q : ℕ → ℕ) (ds : List Decl) → Apart (samples_of ds) → ((x : ℕ) → q x < 2 ^ width_of_sample ds x) → AreSamples ds (row_of q ds)
row_samples q [] a h = refl
row_samples q (decls.Sample n width stage ∷ ds) a h = (refl, record { positive = a.1; at_most = a.2; fits = h 0 }, row_samples (λ x. q (suc x)) ds a.3 (λ x. h (suc x)))
row_samples q (_ ∷ ds) a h = row_samples q ds a h

only_zero : (v : ℕ) → v < 2 ^ 0 → 0 ≡ v
only_zero v h = omega (arith, h)

row_values : (q : ℕ → ℕ) (ds : List Decl) → ((x : ℕ) → q x < 2 ^ width_of_sample ds x) → (x : ℕ) → values_in (row_of q ds) x ≡ q x
row_values q [] h x = only_zero (q x) (h x)
row_values q (decls.Sample n width stage ∷ ds) h zero = refl
row_values q (decls.Sample n width stage ∷ ds) h (suc x) = row_values (λ x. q (suc x)) ds (λ y. h (suc y)) x
row_values q (_ ∷ ds) h x = row_values q ds h x

-- the values that instructions read
taken_below : (job : Job) (m : Machine) (updates : ℕ → ℕ) (cycle n : ℕ) (rows : List Row) (i x b : ℕ) → 0 < b → ((cycle : ℕ) → values_in (input job cycle) x < b)
    → taken_from m updates (inputs_from job cycle n) rows i x < b
taken_below job m updates cycle zero rows i x b some h = some
taken_below job m updates cycle (suc n) [] i x b some h = some
taken_below job m updates cycle (suc n) (r ∷ rows) i x b some h =
    cond_both _ (values_in (input job cycle) x) (taken_from m (λ k. one_if (bit r.ue k) + updates k) (inputs_from job (suc cycle) n) rows i x) (λ (v : ℕ). v < b)
    (λ y. h cycle) (λ y. taken_below job m (λ k. one_if (bit r.ue k) + updates k) (suc cycle) n rows i x b some h)

-- ---- the sequential run

module _ (job : Job) (entries : map (λ e. e.name) (widths_of job).value ≡ declared_names job) (widths : first (widths_of job).asked ≡ None) (stages : broken_of job ≡ None)
    (sections : first (sections_of job).asked ≡ None) where
  abbrev laid : Laid
  laid = record {
    decls = job.decls;
    targets = targets_of job.decls;
    pipes = pipes_of job.decls;
    samples = samples_of job.decls;
    ports = ports_of job.decls;
    names = keys_of [] (widths_of job).value;
  }

  tables : AreTables job laid
  tables = record { decls = refl; targets = refl; pipes = refl; samples = refl; ports = refl; names = refl; declared = entries }

  abbrev no_word : Option Word
  no_word = None

  abbrev no_value : Option ℕ
  no_value = None

  abbrev under : Under
  under = record { names = replicate (length laid.names) no_word; pipes = replicate (length laid.pipes) 0; results = replicate (length laid.targets) no_value }

  placed : HasPlaces laid under
  placed = record { names = length-replicate (length laid.names) no_word; pipes = length-replicate (length laid.pipes) 0; results = length-replicate (length laid.targets) no_value }

  -- a state whose words fit their targets
  record Fits (s : ℕ → ℕ → ℕ) : Type 0 where
    words : List (List ℕ)
    fit : FitSlots (targets_of job.decls) words
    is : state_in words ≡ s

  starts_fit : Fits (state_of job (start_of job))
  starts_fit =
      let suits = starts job widths sections in
      record {
        words = words_of_start job.decls (start_of job).regs (start_of job).files;
        fit = start_fits job.decls (start_of job).regs (start_of job).files suits.regs suits.files;
        is = start_state job (start_of job) job.decls widths suits refl;
      }

  step_keeps : (s : ℕ → ℕ → ℕ) (row : List Word) → AreSamples job.decls row → Fits s → Fits (exec (machine_of job) s (values_in row))
  step_keeps s row samples h = record {
    words = executed laid row under job.blocks h.words;
    fit = step_fits job widths stages laid tables _ refl h.words h.fit row samples under placed;
    is = step_state job widths stages laid tables _ refl h.words h.fit row samples under placed
        ∙ ap (λ (x : ℕ → ℕ → ℕ). exec (machine_of job) x (values_in row)) h.is;
  }

  abbrev apart : Apart (samples_of job.decls)
  apart = samples_apart job.decls nothing (declared_right job widths)

  -- all inputs fit the samples
  abbrev Given : (ℕ → ℕ → ℕ) → Type 0
  Given given = (i x : ℕ) → given i x < 2 ^ width_of_sample job.decls x

  run_fits : (given : ℕ → ℕ → ℕ) → Given given → (i : ℕ) → Fits (sequential job given i)
  unfolding seq
  run_fits given h zero = starts_fit
  run_fits given h (suc i) =
      subst (λ (q : ℕ → ℕ). Fits (exec (machine_of job) (sequential job given i) q)) (λ j x. row_values (given i) job.decls (h i) x j)
      (step_keeps (sequential job given i) (row_of (given i) job.decls) (row_samples (given i) job.decls apart (h i)) (run_fits given h i))

  value_fits : (s : ℕ → ℕ → ℕ) (t a : ℕ) → Fits s → t < length (targets_of job.decls) → s t a < 2 ^ (get_or (targets_of job.decls) t no_slot).width
  value_fits s t a h there =
      subst (λ (x : ℕ → ℕ → ℕ). x t a < 2 ^ (get_or (targets_of job.decls) t no_slot).width) h.is (word_fits (targets_of job.decls) h.words t a h.fit there)

  -- ---- the pipelined run

  abbrev ins : ℕ → List Inputs
  ins n = inputs_from job 0 n

  given_taken : (n : ℕ) → Given (taken_of job (ins n))
  given_taken n i x =
      taken_below job (machine_of job) (λ k. 0) 0 n (pipe_of job (ins n)).rows i x (2 ^ width_of_sample job.decls x) (pow_pos (width_of_sample job.decls x))
      (λ cycle. row_below job.decls (input job cycle) (rows_fit job widths sections cycle) x)

  abbrev bound : ℕ → ℕ
  bound t = 2 ^ (get_or (targets_of job.decls) t no_slot).width

  pub visible_fits : (n T t : ℕ) → T ≤ n → t < length (targets_of job.decls) → (pipe_of job (inputs_from job 0 n)).visible T t 0 < 2 ^ (get_or (targets_of job.decls) t no_slot).width
  visible_fits n T t h there = go ((machine_of job).has_result t) refl
    where
      within : T ≤ length (ins n)
      within = subst (λ (k : ℕ). T ≤ k) (sym (inputs_many job 0 n)) h

      fits : (i : ℕ) → sequential job (taken_of job (ins n)) i t 0 < bound t
      fits i = value_fits (sequential job (taken_of job (ins n)) i) t 0 (run_fits (taken_of job (ins n)) (given_taken n) i) there

      go : (b : Bool) → (machine_of job).has_result t ≡ b → (pipe_of job (ins n)).visible T t 0 < bound t
      go true e =
          subst (λ (v : ℕ). v < bound t) (sym (shown job (accepting.accepted job widths stages) (ins n) T t 0 within e))
          (fits (passed (pipe_of job (ins n)).rows ((machine_of job).write_stage t) T))
      go false e = subst (λ (v : ℕ). v < bound t) (sym (stays job (accepting.accepted job widths stages) (ins n) T t 0 within e)) (fits 0)
