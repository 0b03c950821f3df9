-- The guesses that are wrong in a stage.
use Rattle.std.proofs.Common.{◌≡◌, ◌∙◌, ℕ, zero, suc, ◌+◌, ◌*◌, ◌<◌, ◌≤◌, ◌^◌, Bool, true, false, not, ◌&&◌, ◌||◌, ◌==◌, List, [], ◌∷◌, take, length, get_or, Option, Some, refl, sym, ap, subst, arith}
use Rattle.std.proofs.Math.{Bool.or-false, Bool.or_assoc, Bool.and-false, Bool.and-or_distrib_left, Seq.take-length, Nat.suc-mul, Nat.mul-le-mul_right}
use Rattle.std.{proofs.lemmas.Bool.le-ltb, specs.Prelude.slice_get, specs.Prelude.nat_lt, specs.List.list_any}
use Rattle.kp_ast.specs.declared.tree.Job.{Job}
use Rattle.kp_pipeline.specs.Sequential.{PendingGuess}
use Rattle.kp_pipeline.specs.Pipeline.{PipelineState, StageState, Inputs, above, differs, some_differs, mismatches}
use Rattle.kp_machine.specs.Machine.{machine_of}
use Rattle.kp_net.specs.{declared.node.NodeId.NodeId, Nodes.Cells, Nodes.at, Nodes.on, Growth.Held, Growth.Wire, Growth.Kept}
use Rattle.kp_design.specs.declared.guess.GuessSlot.{GuessSlot}
use Rattle.kp_synth_registers.specs.declared.key.Key.TheVariants.{Pending, Guess}
use Rattle.kp_design.specs.{Numbers.target_at, Numbers.no_guess, Numbers.guesses_of, Numbers.guess_at, Spans.is_carried}
use Rattle.kp_synth_registers.specs.Holding.{Holds, kept_in, optional, some_of, some_guess, guess_passes, pending_guess}
use Rattle.kp_synth_registers.specs.Meaning.{IsTest}
use Rattle.kp_synth_stage.specs.{declared.row.Source.Source, Rows.Sees, Rows.view_of, Rows.source_view}
use Rattle.kp_synth.specs.{Stages.guess_room, inner.Seeing.SeesAbove, inner.Whole.is_wrong, inner.Whole.GuessOk, inner.Whole.Misses}
use Rattle.kp_synth.proofs.Ports.{bit_value}

-- a guess that is wrong, by its nodes
differs_by : (ok : Bool) (v w : ℕ) (o : Option ℕ) → optional ok v ≡ o → (ok && not (v == w)) ≡ differs o w
differs_by true v w o e = ap (λ (x : Option ℕ). differs x w) e
differs_by false v w o e = ap (λ (x : Option ℕ). differs x w) e

pub guess_wrong : (job : Job) (k g : ℕ) (slot : GuessSlot) (p q r : Held) (m : ℕ) (ss : List Source) (s : Source) (full pending ok value guess n : NodeId) (w : ℕ) → Kept p q m
    → is_carried slot k ≡ true → GuessOk job slot → slice_get ss slot.register ≡ Some s → SeesAbove job p ss k
    → Wire p full 1 → IsTest job p full (λ st i. (st.stage k).full)
    → Wire p pending 1 → ((c : Cells) → at c p.nodes pending.0 ≡ kept_in job c (Pending g k))
    → Wire p guess w → ((c : Cells) → at c p.nodes guess.0 ≡ kept_in job c (Guess g k))
    → ((c : Cells) → optional (on c q.nodes ok.0) (at c q.nodes value.0) ≡ source_view c p s 0)
    → ((c : Cells) → on c r.nodes n.0 ≡ (on c q.nodes full.0 && (on c q.nodes pending.0 && (on c q.nodes ok.0 && not (at c q.nodes value.0 == at c q.nodes guess.0)))))
    → (c : Cells) (st : PipelineState) (i : Inputs) → Holds job c st i → on c r.nodes n.0 ≡ ((st.stage k).full && guess_passes job c k (is_wrong job st i k) g slot)
unfolding IsTest SeesAbove Sees
guess_wrong job k g slot p q r m ss s full pending ok value guess n w kept carried fits there sees fw ft pw pv gw gv tv is c st i h =
    let a : on c q.nodes full.0 ≡ (st.stage k).full = kept.tests c full.0 fw.inside ∙ ft c st i h in
    let b : on c q.nodes pending.0 ≡ (kept_in job c (Pending g k) == 1) = kept.tests c pending.0 pw.inside ∙ bit_value c p pending _ (pv c) in
    let x : at c q.nodes guess.0 ≡ kept_in job c (Guess g k) = kept.same c guess.0 gw.inside ∙ gv c in
    let z : 0 < 2 ^ (target_at job slot.register).address = subst (λ d. 0 < 2 ^ d) (sym fits.register) (omega arith) in
    let y : source_view c p s 0 ≡ (above (machine_of job) st i k).truth slot.register 0 = ap (λ (o : Option Source). view_of c p o 0) (sym there) ∙ sees c st i h slot.register 0 fits.target z in
    let d = ap (λ v. on c q.nodes ok.0 && not (at c q.nodes value.0 == v)) x ∙ differs_by (on c q.nodes ok.0) (at c q.nodes value.0) (kept_in job c (Guess g k)) _ (tv c ∙ y) in
    is c ∙ (λ j. a j && (b j && d j)) ∙ sym (ap (λ e. (st.stage k).full && (e && ((kept_in job c (Pending g k) == 1) && is_wrong job st i k (pending_guess slot (kept_in job c (Guess g k)))))) carried)

-- one guess after another
at_start : (test : ℕ → GuessSlot → Bool) (m : ℕ) (s : GuessSlot) → test (0 + m) s ≡ test m s
at_start test m s = let z : 0 + m ≡ m = omega arith in ap (λ x. test x s) z

some_more : (test : ℕ → GuessSlot → Bool) (n m : ℕ) (gs : List GuessSlot) → m < length gs → some_of test n (take (suc m) gs) ≡ (some_of test n (take m gs) || test (n + m) (get_or gs m no_guess))
some_more test n m [] h = absurd (omega arith)
some_more test n zero (s ∷ ss) h = let z : n ≡ n + 0 = omega arith in or-false (test n s) ∙ ap (λ x. test x s) z
some_more test n (suc m) (s ∷ ss) h =
    let z : suc n + m ≡ n + suc m = omega arith in
    ap (λ b. test n s || b) (some_more test (suc n) m ss (omega arith) ∙ ap (λ x. some_of test (suc n) (take m ss) || test x (get_or ss m no_guess)) z)
    ∙ sym (or_assoc (test n s) (some_of test (suc n) (take m ss)) (test (n + suc m) (get_or ss m no_guess)))

pub no_misses : (job : Job) (p : Held) (k : ℕ) (n : NodeId) → ((c : Cells) → on c p.nodes n.0 ≡ false) → Misses job p k 0 n
unfolding Misses
no_misses job p k n e = λ c st i h. e c ∙ sym (and-false (st.stage k).full)

pub one_miss : (job : Job) (p q r : Held) (m k g : ℕ) (miss wrong n : NodeId) → Kept p q m → g < length (guesses_of job) → Wire p miss 1 → Misses job p k g miss
    → ((c : Cells) (st : PipelineState) (i : Inputs) → Holds job c st i → on c q.nodes wrong.0 ≡ ((st.stage k).full && guess_passes job c k (is_wrong job st i k) g (guess_at job g)))
    → ((c : Cells) → on c r.nodes n.0 ≡ (on c q.nodes miss.0 || on c q.nodes wrong.0)) → Misses job r k (g + 1) n
unfolding Misses
one_miss job p q r m k g miss wrong n kept l mw before now is = λ c st i h.
    let a = kept.tests c miss.0 mw.inside ∙ before c st i h in
    let b = now c st i h in
    let z : suc g ≡ g + 1 = omega arith in
    let test = guess_passes job c k (is_wrong job st i k) in
    is c ∙ (λ t. a t || b t) ∙ sym (and-or_distrib_left (st.stage k).full (some_of test 0 (take g (guesses_of job))) (test g (guess_at job g)))
    ∙ ap (λ b. (st.stage k).full && b) (sym (ap (λ b. some_of test 0 (take g (guesses_of job)) || b) (at_start test g (guess_at job g))) ∙ sym (some_more test 0 g (guesses_of job) l) ∙ ap (λ x. some_of test 0 (take x (guesses_of job))) z)

pub not_carried : (job : Job) (p : Held) (k g : ℕ) (n : NodeId) → g < length (guesses_of job) → is_carried (guess_at job g) k ≡ false → Misses job p k g n → Misses job p k (g + 1) n
unfolding Misses
not_carried job p k g n l none before = λ c st i h.
    let z : suc g ≡ g + 1 = omega arith in
    let test = guess_passes job c k (is_wrong job st i k) in
    let e : test (0 + g) (guess_at job g) ≡ false = at_start test g (guess_at job g) ∙ ap (λ b. b && ((kept_in job c (Pending g k) == 1) && is_wrong job st i k (pending_guess (guess_at job g) (kept_in job c (Guess g k))))) none in
    before c st i h ∙ ap (λ b. (st.stage k).full && b)
    (sym (or-false (some_of test 0 (take g (guesses_of job)))) ∙ sym (ap (λ b. some_of test 0 (take g (guesses_of job)) || b) e)
    ∙ sym (some_more test 0 g (guesses_of job) l) ∙ ap (λ x. some_of test 0 (take x (guesses_of job))) z)

-- all of them
any_differs : (truth : ℕ → ℕ → Option ℕ) (ps : List PendingGuess) → list_any (λ p. differs (truth p.register 0) p.value) ps ≡ some_differs truth ps
any_differs truth [] = refl
any_differs truth (p ∷ ps) = ap (λ b. differs (truth p.register 0) p.value || b) (any_differs truth ps)

none_carried : (job : Job) (c : Cells) (test : PendingGuess → Bool) (n : ℕ) (gs : List GuessSlot) → some_of (guess_passes job c 0 test) n gs ≡ false
none_carried job c test n [] = refl
none_carried job c test n (s ∷ ss) =
    let e : nat_lt s.stage 0 ≡ false = le-ltb s.stage 0 (omega arith) in
    ap (λ b. ((b && nat_lt 0 s.write) && ((kept_in job c (Pending n 0) == 1) && test (pending_guess s (kept_in job c (Guess n 0))))) || some_of (guess_passes job c 0 test) (suc n) ss) e
    ∙ none_carried job c test (suc n) ss

pub some_pending : (job : Job) (k : ℕ) → k < job.stages.value → (c : Cells) (st : PipelineState) (i : Inputs) → Holds job c st i → (test : PendingGuess → Bool)
    → some_of (guess_passes job c k test) 0 (guesses_of job) ≡ list_any test (st.stage k).pending
unfolding some_guess
some_pending job zero l c st i h test = none_carried job c test 0 (guesses_of job) ∙ sym (ap (λ (s : StageState). list_any test s.pending) h.first)
some_pending job (suc k) l c st i h test = h.pending (suc k) (omega arith) l test

pub all_misses : (job : Job) (p : Held) (k m : ℕ) (n : NodeId) → k < job.stages.value → m ≡ length (guesses_of job) → Misses job p k m n → IsTest job p n (λ st i. mismatches (machine_of job) st i k)
unfolding Misses IsTest
all_misses job p k m n l e h = λ c st i y.
    h c st i y ∙ ap (λ b. (st.stage k).full && b)
    (ap (λ (gs : List GuessSlot). some_of (guess_passes job c k (is_wrong job st i k)) 0 gs) (ap (λ x. take x (guesses_of job)) e ∙ take-length (guesses_of job))
    ∙ some_pending job k l c st i y (is_wrong job st i k) ∙ any_differs (above (machine_of job) st i k).truth (st.stage k).pending)

-- THE BOUND for one more guess
pub guess_step : (job : Job) (g : ℕ) → guess_room job g + 20 * job.stages.value ≡ guess_room job (g + 1)
guess_step job g = let z : suc g ≡ g + 1 = omega arith in sym (suc-mul g (20 * job.stages.value)) ∙ ap (guess_room job) z

pub guess_left : (job : Job) (g m : ℕ) → g < m → guess_room job g + 20 * job.stages.value ≤ guess_room job m
guess_left job g m l = subst (λ x. x ≤ guess_room job m) (suc-mul g (20 * job.stages.value)) (mul-le-mul_right (20 * job.stages.value) l)
