-- BEFORE ITS PUT a pipe is 0, and before the first stage that sets it a result isn't set. So what isn't kept needs no register, once
-- the pipes past their last use are 0 too.
use Rattle.std.proofs.Common.{◌≡◌, ◌∙◌, ℕ, zero, suc, ◌<◌, ◌≤◌, Bool, true, false, cond, ◌&&◌, [], length, None, refl, sym, ap, arith, ⊎_elim}
use Rattle.std.proofs.lemmas.Bool.{cond_both, cond-false, cases_lt, le-leb}
use Rattle.std.specs.Prelude.{nat_le, unwrap_or}
use Rattle.kp_ast.specs.declared.tree.Job.{Job}
use Rattle.kp_pipeline.specs.Sequential.{first_value, after_stage}
use Rattle.kp_pipeline.specs.Pipeline.{PipelineState, Inputs, outcome, ue, cycle, next_stage, pipeline_start, stage_zero}
use Rattle.kp_pipeline.{specs.Trimming.trimmed, specs.Trimming.trimmed_stage, proofs.Ends.run-ends}
use Rattle.kp_machine.specs.{Slots.pipes_of, Machine.machine_of, Machine.result_for}
use Rattle.kp_design.specs.{Spans.put_after, Numbers.pipe_at, Spans.set_by, Spans.is_alive, Spans.is_piped, Spans.is_kept, Spans.is_stored, Fits.Fits}

pub record Bare (job : Job) (st : PipelineState) : Type 0 where
  pub pipes : (x k : ℕ) → x < length (pipes_of job.decls) → k < put_after (pipe_at job x).name 0 job.blocks → (st.stage k).instruction.pipes x ≡ 0
  pub results : (t k : ℕ) → k < set_by job (result_for job t) → (st.stage k).instruction.results t ≡ None

pub or_zero : (b : Bool) (v : ℕ) → v ≡ 0 → cond b v 0 ≡ 0
or_zero true v e = e
or_zero false v e = refl

-- at the start
pub bare_start : (job : Job) (s : ℕ → ℕ → ℕ) (hints : ℕ → ℕ) → Bare job (pipeline_start s hints)
bare_start job s hints = record { pipes = pipes'; results = results' } where
  pipes' : (x k : ℕ) → x < length (pipes_of job.decls) → k < put_after (pipe_at job x).name 0 job.blocks → ((pipeline_start s hints).stage k).instruction.pipes x ≡ 0
  pipes' x zero l b = refl
  pipes' x (suc k) l b = refl

  results' : (t k : ℕ) → k < set_by job (result_for job t) → ((pipeline_start s hints).stage k).instruction.results t ≡ None
  results' t zero b = refl
  results' t (suc k) b = refl

-- stage 0 has nothing, and so nothing is removed from it
pub zero_trimmed : (alive : ℕ → ℕ → Bool) → trimmed_stage alive 0 stage_zero ≡ stage_zero
zero_trimmed alive = λ j. record { full = true; instruction = record { pipes = λ x. or_zero (alive x 0) 0 refl j; results = λ t. None }; pending = [] }

module _ (job : Job) (fit : Fits job) (st : PipelineState) (h : Bare job st) where
  -- a cycle
  put_none : (i : Inputs) (x k : ℕ) → x < length (pipes_of job.decls) → suc k < put_after (pipe_at job x).name 0 job.blocks → (outcome (machine_of job) st i k).puts x ≡ None
  unfolding outcome
  put_none i x k l b = run-ends (λ puts sets. puts x ≡ None) _ st.hints _ (fit.no_put k x i.samples (st.stage k).instruction.pipes l b)

  set_none : (i : Inputs) (t k : ℕ) → suc k < set_by job (result_for job t) → (outcome (machine_of job) st i k).sets t ≡ None
  unfolding outcome
  set_none i t k b = run-ends (λ puts sets. sets t ≡ None) _ st.hints _ (fit.no_set k t i.samples (st.stage k).instruction.pipes b)

  pub bare_next : (i : Inputs) → Bare job (cycle (machine_of job) st i)
  unfolding next_stage
  bare_next i = record { pipes = pipes'; results = results' } where
    pipes' : (x k : ℕ) → x < length (pipes_of job.decls) → k < put_after (pipe_at job x).name 0 job.blocks → ((cycle (machine_of job) st i).stage k).instruction.pipes x ≡ 0
    pipes' x zero l b = refl
    pipes' x (suc k) l b =
        cond_both (ue (machine_of job) st i k) (after_stage (st.stage k).instruction (outcome (machine_of job) st i k)) (st.stage (suc k)).instruction (λ c. c.pipes x ≡ 0)
        (λ _. ap (λ o. unwrap_or o ((st.stage k).instruction.pipes x)) (put_none i x k l b) ∙ h.pipes x k l (omega (arith, b)))
        (λ _. h.pipes x (suc k) l b)

    results' : (t k : ℕ) → k < set_by job (result_for job t) → ((cycle (machine_of job) st i).stage k).instruction.results t ≡ None
    results' t zero b = refl
    results' t (suc k) b =
        let old = h.results t k (omega (arith, b)) in
        let new = set_none i t k b in
        cond_both (ue (machine_of job) st i k) (after_stage (st.stage k).instruction (outcome (machine_of job) st i k)) (st.stage (suc k)).instruction (λ c. c.results t ≡ None)
        (λ _. λ j. first_value (old j) (new j))
        (λ _. h.results t (suc k) b)

  -- with no pipe past its last use
  pub bare_trimmed : Bare job (trimmed (is_alive job) st)
  bare_trimmed = record { pipes = λ x k l b. or_zero (is_alive job x k) _ (h.pipes x k l b); results = h.results }

  pub absent_trimmed : (x k : ℕ) → x < length (pipes_of job.decls) → is_piped job x k ≡ false → ((trimmed (is_alive job) st).stage k).instruction.pipes x ≡ 0
  absent_trimmed x k l e = ⊎_elim
      (λ (b : k < put_after (pipe_at job x).name 0 job.blocks). or_zero (is_alive job x k) _ (h.pipes x k l b))
      (λ (b : put_after (pipe_at job x).name 0 job.blocks ≤ k).
      let dead : is_alive job x k ≡ false = sym (ap (λ c. c && is_alive job x k) (le-leb _ k b)) ∙ e in
      cond-false (is_alive job x k) _ 0 dead)
      (cases_lt k (put_after (pipe_at job x).name 0 job.blocks))

  pub unset_trimmed : (t k : ℕ) → is_kept job t k ≡ true → is_stored job t k ≡ false → (st.stage k).instruction.results t ≡ None
  unset_trimmed t k y e = ⊎_elim
      (λ (b : k < set_by job (result_for job t)). h.results t k b)
      (λ (b : set_by job (result_for job t) ≤ k).
      let late : nat_le (set_by job (result_for job t)) k ≡ true = le-leb _ k b in
      let f : true ≡ false = sym (λ j. late j && y j) ∙ e in cc)
      (cases_lt k (set_by job (result_for job t)))
