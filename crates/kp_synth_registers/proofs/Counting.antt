-- How many registers a job has, by the counts of its declarations and guesses.
use Rattle.std.proofs.Common.{◌≡◌, ℕ, zero, suc, ◌+◌, ◌*◌, ◌<◌, ◌≤◌, List, [], ◌∷◌, ◌++◌, Option, Some, None, Bool, true, false, cond, ◌&&◌, eqb, length, length-append, refl, arith, ⊎_elim}
use Rattle.std.proofs.lemmas.Bool.{cond_both, cases_Bool, eqb-true, false_from_ne_true}
use Rattle.std.proofs.{Math.Nat.suc-mul, Math.Nat.mul-le-mul, lemmas.List.Sums.sum_by-cons}
use Rattle.std.specs.Prelude.{sum_by, is_some, nat_le}
use Rattle.kp_machine.proofs.Cases.{by_test}
use Rattle.kp_machine.specs.Slots.{Slot, targets_of, pipes_of, hints_of, number_of, result_to}
use Rattle.kp_machine.specs.Machine.{result_for, write_stage_of}
use Rattle.kp_ast.specs.declared.tree.{ResultDecl.ResultDecl, Decl.Decl, Block.Block, Job.Job}
use Rattle.kp_ast.specs.declared.tree.Decl.TheVariants as decls
use Rattle.kp_stage.specs.{Counts.regs_in, Counts.files_in, Counts.pipes_in, Counts.results_in, Counts.hints_in, Stages.broken_of}
use Rattle.kp_stage.specs.Counts as counts
use Rattle.kp_synth_registers.specs.declared.key.Key.TheVariants.{Valid, Value}
use Rattle.kp_design.specs.{Spans.set_by, Numbers.guesses_of}
use Rattle.kp_synth_registers.specs.Keys.{visible_keys, pipe_keys, result_keys, guess_keys, stage_keys, stages_keys, later_keys, hint_keys, keys_of}
use Rattle.kp_synth_registers.proofs.Listed.{few}
use Rattle.kp_design.proofs.Limits.{limits, targets_counted, pipes_counted, hints_counted, guesses_counted}
use Rattle.kp_synth_registers.proofs.Listed as listed

-- how many of n numbers from t on pass a test
abbrev one : Bool → ℕ
one b = cond b 1 0

abbrev passing : (ℕ → Bool) → ℕ → ℕ → ℕ
passing test t zero = 0
passing test t (suc n) = one (test t) + passing test (suc t) n

-- a number is hit once at most
no_hit : (p t n : ℕ) → p < t → passing (λ i. eqb p i) t n ≡ 0
no_hit p t zero l = refl
no_hit p t (suc n) l =
    let miss : eqb p t ≡ false = false_from_ne_true _ (λ y. let e = eqb-true p t y in absurd (omega (arith, e, l))) in
    let more = no_hit p (suc t) n (omega (arith, l)) in
    rw miss (omega (arith, more))

one_hit : (p t n : ℕ) → passing (λ i. eqb p i) t n ≤ 1
one_hit p t zero = omega arith
one_hit p t (suc n) =
    let more = one_hit p (suc t) n in
    by_test (eqb p t)
    (λ y. let e = eqb-true p t y in let none = no_hit p (suc t) n (omega (arith, e)) in rw (y, none) (omega arith))
    (λ m. rw m (omega (arith, more)))

-- so one more result adds at most one more target with a result
one_more : (b : Bool) (r : ResultDecl) (o : Option ResultDecl) → one (is_some (cond b (Some r) o)) ≤ one b + one (is_some o)
one_more true r o = omega arith
one_more false r o = omega arith

more_results : (p : ℕ) (r : ResultDecl) (f : ℕ → Option ResultDecl) (t n : ℕ)
    → passing (λ i. is_some (cond (eqb p i) (Some r) (f i))) t n ≤ passing (λ i. eqb p i) t n + passing (λ i. is_some (f i)) t n
more_results p r f t zero = omega arith
more_results p r f t (suc n) = let here = one_more (eqb p t) r (f t) in let more = more_results p r f (suc t) n in omega (arith, here, more)

no_results : (t n : ℕ) → passing (λ i. false) t n ≤ 0
no_results t zero = omega arith
no_results t (suc n) = let more = no_results (suc t) n in omega (arith, more)

module _ (targets : List Slot) (t n : ℕ) where
  with_results : (ds : List Decl) → passing (λ i. is_some (result_to targets ds i)) t n ≤ sum_by results_in ds
  with_results [] = no_results t n
  with_results (decls.Target r ∷ ds) =
      let more = with_results ds in
      let step = more_results (number_of targets r.target.name) r (λ i. result_to targets ds i) t n in
      let hit = one_hit (number_of targets r.target.name) t n in
      omega (arith, more, step, hit, sum_by-cons results_in (decls.Target r) ds)
  with_results (d ∷ ds) = let more = with_results ds in omega (arith, more, sum_by-cons results_in d ds)

never : (b c : Bool) → (b && (false && c)) ≡ true → ⊥
never true c e = cc
never false c e = cc

-- the keys of the results of a stage
kept_few : (job : Job) (k t : ℕ) (ss : List Slot) → length (result_keys job k t ss) ≤ 2 * passing (λ i. is_some (result_for job i)) t (length ss)
kept_few job k t [] = omega arith
kept_few job k t (s ∷ ss) =
    let more = kept_few job k (suc t) ss in
    let late = nat_le k (write_stage_of (result_for job t)) in
    let early = nat_le (set_by job (result_for job t)) k in
    let rest = result_keys job k (suc t) ss in
    ⊎_elim
    (λ (y : is_some (result_for job t) ≡ true).
    rw y (cond_both (early && (true && late)) (Valid t k ∷ Value t k ∷ rest) rest (λ l. length l ≤ 2 * (1 + passing (λ i. is_some (result_for job i)) (suc t) (length ss))) (λ x. omega (arith, more)) (λ x. omega (arith, more))))
    (λ (m : is_some (result_for job t) ≡ false). rw m (cond_both (early && (false && late)) (Valid t k ∷ Value t k ∷ rest) rest (λ l. length l ≤ 2 * (0 + passing (λ i. is_some (result_for job i)) (suc t) (length ss))) (λ x. absurd (never early late x)) (λ x. omega (arith, more))))
    (cases_Bool (is_some (result_for job t)))

module _ (job : Job) where
  abbrev stage_size : ℕ
  stage_size = 1 + (sum_by pipes_in job.decls + (2 * sum_by results_in job.decls + 2 * sum_by (λ (b : Block). sum_by counts.guesses_in b.stmts) job.blocks))

  results_of_stage : (k : ℕ) → length (result_keys job k 0 (targets_of job.decls)) ≤ 2 * sum_by results_in job.decls
  unfolding result_for
  results_of_stage k =
      let a = kept_few job k 0 (targets_of job.decls) in
      let b = with_results (targets_of job.decls) 0 (length (targets_of job.decls)) job.decls in
      omega (arith, a, b)

  stage_counted : (k : ℕ) → length (stage_keys job k) ≤ stage_size
  stage_counted k =
      let pipes = pipe_keys job k 0 (pipes_of job.decls) in
      let results = result_keys job k 0 (targets_of job.decls) in
      let guesses = guess_keys k 0 (guesses_of job) in
      omega (
        arith,
        length-append pipes (results ++ guesses),
        length-append results guesses,
        few (listed.pipes job k) 1 (λ n. omega arith) 0 (pipes_of job.decls),
        results_of_stage k,
        few (listed.guesses k) 2 (λ n. omega arith) 0 (guesses_of job),
        pipes_counted job.decls,
        guesses_counted job,
      )

  stages_counted : (d k : ℕ) → length (stages_keys job d k) ≤ d * stage_size
  stages_counted zero k = omega arith
  stages_counted (suc d) k =
      let here = stage_counted k in
      let more = stages_counted d (suc k) in
      let z : suc d * stage_size ≡ d * stage_size + stage_size = suc-mul d stage_size in
      omega (arith, here, more, z, length-append (stage_keys job k) (stages_keys job d (suc k)))

  later_counted : (s : ℕ) → length (later_keys job s) ≤ s * stage_size
  later_counted zero = omega arith
  later_counted (suc s) =
      let more = stages_counted s 1 in
      let z : suc s * stage_size ≡ s * stage_size + stage_size = suc-mul s stage_size in
      omega (arith, more, z)

  -- The registers of a job: the visible ones, the hints, and for each stage its full bit, the pipes, and two for each result and guess.
  pub keys_counted : length (keys_of job) ≤ sum_by regs_in job.decls + sum_by files_in job.decls + sum_by hints_in job.decls + job.stages.value * stage_size
  unfolding keys_of
  keys_counted =
      let visible = visible_keys 0 (targets_of job.decls) in
      let later = later_keys job job.stages.value in
      let hints = hint_keys 0 (hints_of job.decls) in
      omega (
        arith,
        length-append visible (later ++ hints),
        length-append later hints,
        few listed.visible 1 (λ n. omega arith) 0 (targets_of job.decls),
        later_counted job.stages.value,
        few listed.hints 1 (λ n. omega arith) 0 (hints_of job.decls),
        targets_counted job.decls,
        hints_counted job.decls,
      )

  -- so there are few of them
  pub keys_few : broken_of job ≡ None → job.stages.value ≤ 12 → length (keys_of job) ≤ 4096
  keys_few kept early =
      let l = limits job kept in
      let size : stage_size ≤ 273 = omega (arith, l.pipes, l.results, l.guesses) in
      omega (arith, keys_counted, mul-le-mul early size, l.regs, l.files, l.hints)
