-- Cells that hold the state hold the next state after a cycle.
use Rattle.std.proofs.Common.{◌≡◌, ◌∙◌, ℕ, zero, suc, ◌<◌, Bool, true, false, cond, not, ◌&&◌, ◌||◌, ◌==◌, List, [], ◌∷◌, ◌++◌, length, refl, sym, ap, subst, arith}
use Rattle.std.proofs.lemmas.{Bool.le-ltb, Bool.cond-true, Bool.cond-false, List.Folds.list_any-append}
use Rattle.std.specs.List.{list_any, filter, AllByRecursion}
use Rattle.kp_ast.specs.declared.tree.{Block.Block, Job.Job}
use Rattle.kp_pipeline.specs.Sequential.{PendingGuess}
use Rattle.kp_pipeline.specs.Pipeline.{PipelineState, StageState, Inputs, ue, cycle, outcome, next_stage}
use Rattle.kp_pipeline.proofs.Lists.{all-append}
use Rattle.kp_machine.{specs.Machine.machine_of, specs.Machine.result_for, specs.Machine.write_stage_of, proofs.Cases.by_test}
use Rattle.kp_net.specs.{Nodes.Cells, Nodes.at, Nodes.on, Growth.Held}
use Rattle.kp_synth_registers.specs.declared.key.Key.TheVariants.{Pending, Guess}
use Rattle.kp_design.specs.declared.guess.GuessSlot.{GuessSlot}
use Rattle.kp_design.proofs.Fitting.{all_at}
use Rattle.kp_design.specs.{Numbers.no_guess, Numbers.guesses_in, Numbers.guesses_from, Numbers.guesses_of, Numbers.guess_at, Spans.is_carried}
use Rattle.kp_synth_registers.specs.declared.outcome.Outcome.{Outcome}
use Rattle.kp_synth_registers.specs.Holding.{Holds, kept_in, some_of, some_guess, guess_passes, pending_guess}
use Rattle.kp_synth_registers.specs.Meaning.{Says}
use Rattle.kp_synth_next.specs.Nexts.{outcome_at, made_at, leaves_pending, leaves_with, GuessesFit}
use Rattle.kp_synth_next.proofs.Guesses.{Numbered, numbered, some_same, some_or, some_none, any_filter, made_passes, made_among, IsGuess, moves, moving}

-- the write stage of each guess
abbrev AllWritten : Job → List GuessSlot → Type 0
AllWritten job ss = AllByRecursion (λ (s : GuessSlot). s.write ≡ write_stage_of (result_for job s.register)) ss

written_in : (job : Job) (k i : ℕ) (ss : List GuessSlot) → Numbered job k i ss → AllWritten job ss
written_in job k i [] h = tt
written_in job k i (s ∷ ss) h = (h.0.write, written_in job k (suc i) ss h.1)

written_from : (job : Job) (k : ℕ) (bs : List Block) → AllWritten job (guesses_from job k bs)
written_from job k [] = tt
written_from job k (b ∷ bs) = all-append _ (guesses_in job k 0 b.stmts) (guesses_from job (suc k) bs) (written_in job k 0 (guesses_in job k 0 b.stmts) (numbered job k 0 b.stmts)) (written_from job (suc k) bs)

is_guess : (job : Job) (g : ℕ) → GuessesFit job → g < length (guesses_of job) → IsGuess job (guess_at job g)
unfolding guesses_of
is_guess job g fit l = record { write = all_at _ (guesses_from job 0 job.blocks) no_guess (written_from job 0 job.blocks) g l; fits = fit g l }

pub some_each : (job : Job) (f h : ℕ → GuessSlot → Bool) → ((g : ℕ) → g < length (guesses_of job) → f g (guess_at job g) ≡ h g (guess_at job g))
    → some_of f 0 (guesses_of job) ≡ some_of h 0 (guesses_of job)
some_each job f h e = some_same f h 0 (guesses_of job) (λ i n l m.
    let z : i ≡ n = omega arith in
    subst (λ y. f y (guess_at job i) ≡ h y (guess_at job i)) z (e i l))

and_same : (a b d : Bool) → (a ≡ true → b ≡ d) → (a && b) ≡ (a && d)
and_same true b d e = e refl
and_same false b d e = refl

-- WHAT THE CELLS HAVE of the guesses after a cycle.
pub record GuessesNext (job : Job) (p : Held) (outs : List Outcome) (c c' : Cells) (u : Bool) (k : ℕ) : Type 0 where
  pub pending : (g : ℕ) → g < length (guesses_of job) → is_carried (guess_at job g) (suc k) ≡ true
      → (kept_in job c' (Pending g (suc k)) == 1) ≡ cond u (leaves_pending job p outs c k g (guess_at job g)) (kept_in job c (Pending g (suc k)) == 1)
  pub value : (g : ℕ) → g < length (guesses_of job) → is_carried (guess_at job g) (suc k) ≡ true
      → kept_in job c' (Guess g (suc k)) ≡ cond u (leaves_with job p outs c k g (guess_at job g)) (kept_in job c (Guess g (suc k)))

-- The stage keeps its guesses if none enters.
guesses_stay : (job : Job) (p : Held) (outs : List Outcome) (c c' : Cells) (k : ℕ) (test : PendingGuess → Bool)
    → GuessesNext job p outs c c' false k → some_guess job c' (suc k) test ≡ some_guess job c (suc k) test
unfolding some_guess
guesses_stay job p outs c c' k test h = some_each job (guess_passes job c' (suc k) test) (guess_passes job c (suc k) test) (λ g l.
    and_same (is_carried (guess_at job g) (suc k)) _ _ (λ e. λ i. h.pending g l e i && test (pending_guess (guess_at job g) (h.value g l e i))))

cond_of : {A : Type 0} (f : A → Bool) (b : Bool) (x y : A) → f (cond b x y) ≡ cond b (f x) (f y)
cond_of f true x y = refl
cond_of f false x y = refl

-- It takes those that leave the stage before.
guesses_move : (job : Job) (p : Held) (outs : List Outcome) (c c' : Cells) (k : ℕ) (test keep : PendingGuess → Bool)
    → GuessesFit job → ((q : PendingGuess) → keep q ≡ not ((machine_of job).write_stage q.register == suc k))
    → GuessesNext job p outs c c' true k
    → some_guess job c' (suc k) test
    ≡ (some_of (λ n s. made_passes p outs c k (λ q. keep q && test q) s) 0 (guesses_of job) || some_guess job c k (λ q. keep q && test q))
unfolding some_guess
guesses_move job p outs c c' k test keep fit is h =
    some_each job (guess_passes job c' (suc k) test) (λ g s. made_passes p outs c k (λ q. keep q && test q) s || guess_passes job c k (λ q. keep q && test q) g s)
    (λ g l.
    let s : GuessSlot = guess_at job g in
    let q : Bool = (machine_of job).write_stage s.register == suc k in
    let mv : ℕ = at c p.nodes (made_at outs s).value.0 in
    let ov : ℕ = kept_in job c (Guess g k) in
    let km : keep (pending_guess s mv) ≡ not q = is (pending_guess s mv) in
    let ko : keep (pending_guess s ov) ≡ not q = is (pending_guess s ov) in
    moving (is_carried s (suc k)) (is_carried s k) (s.stage == k) q
    (kept_in job c' (Pending g (suc k)) == 1) (test (pending_guess s (kept_in job c' (Guess g (suc k)))))
    (on c p.nodes (made_at outs s).pending.0) (test (pending_guess s mv))
    (kept_in job c (Pending g k) == 1) (test (pending_guess s ov))
    (moves job s k (is_guess job g fit l))
    (λ e. h.pending g l e)
    (λ e. ap (λ v. test (pending_guess s v)) (h.value g l e) ∙ cond_of (λ v. test (pending_guess s v)) (s.stage == k) mv ov)
    ∙ rw (km, ko) refl)
    ∙ some_or (λ n s. made_passes p outs c k (λ q. keep q && test q) s) (guess_passes job c k (λ q. keep q && test q)) 0 (guesses_of job)

-- What is pending in stage k by the cells, with stage 0, which has none.
before_zero : (s : GuessSlot) → is_carried s 0 ≡ false
before_zero s = rw (le-ltb s.stage 0 (omega arith)) refl

pending_before : (job : Job) (c : Cells) (st : PipelineState) (i : Inputs) (k : ℕ) (test : PendingGuess → Bool) → k < job.stages.value → Holds job c st i
    → some_guess job c k test ≡ list_any test (st.stage k).pending
unfolding some_guess
pending_before job c st i zero test l h =
    some_none (guess_passes job c 0 test) 0 (guesses_of job) (λ n s. ap (λ b. b && ((kept_in job c (Pending n 0) == 1) && test (pending_guess s (kept_in job c (Guess n 0))))) (before_zero s))
    ∙ ap (λ (s : StageState). list_any test s.pending) (sym h.first)
pending_before job c st i (suc k) test l h = h.pending (suc k) (omega arith) l test

pub pending_next : (job : Job) (p : Held) (outs : List Outcome) (c c' : Cells) (st : PipelineState) (i : Inputs) (k : ℕ) (test : PendingGuess → Bool)
    → GuessesFit job → Holds job c st i → suc k < job.stages.value → Says job p k (outcome_at outs k)
    → GuessesNext job p outs c c' (ue (machine_of job) st i k) k
    → some_guess job c' (suc k) test ≡ list_any test ((cycle (machine_of job) st i).stage (suc k)).pending
unfolding next_stage
pending_next job p outs c c' st i k test fit h l says next = by_test (ue (machine_of job) st i k)
    (λ u.
    let keep : PendingGuess → Bool = λ q. not ((machine_of job).write_stage q.register == suc k) in
    let more : PendingGuess → Bool = λ q. keep q && test q in
    let n : GuessesNext job p outs c c' true k = subst (λ b. GuessesNext job p outs c c' b k) u next in
    let a : some_of (λ n s. made_passes p outs c k more s) 0 (guesses_of job) ≡ list_any more (outcome (machine_of job) st i k).guesses =
    sym (made_among job p outs c k more says.made_wires) ∙ ap (list_any more) (says.made c st i h) in
    let b : some_guess job c k more ≡ list_any more (st.stage k).pending = pending_before job c st i k more (omega arith) h in
    guesses_move job p outs c c' k test keep fit (λ q. refl) n
    ∙ ap (λ x. x || some_guess job c k more) a ∙ ap (λ x. list_any more (outcome (machine_of job) st i k).guesses || x) b
    ∙ sym (list_any-append more (outcome (machine_of job) st i k).guesses (st.stage k).pending)
    ∙ sym (any_filter keep test ((outcome (machine_of job) st i k).guesses ++ (st.stage k).pending))
    ∙ ap (list_any test) (sym (cond-true (ue (machine_of job) st i k) (filter keep ((outcome (machine_of job) st i k).guesses ++ (st.stage k).pending)) (st.stage (suc k)).pending u)))
    (λ u.
    let n : GuessesNext job p outs c c' false k = subst (λ b. GuessesNext job p outs c c' b k) u next in
    guesses_stay job p outs c c' k test n ∙ h.pending (suc k) (omega arith) l test
    ∙ ap (list_any test) (sym (cond-false (ue (machine_of job) st i k) (filter (λ q. not ((machine_of job).write_stage q.register == suc k)) ((outcome (machine_of job) st i k).guesses ++ (st.stage k).pending)) (st.stage (suc k)).pending u)))
