-- The guesses that are pending after a cycle.
use Rattle.std.proofs.Common.{◌≡◌, ◌∙◌, ℕ, zero, suc, ◌+◌, ◌<◌, ◌≤◌, Bool, true, false, cond, not, ◌&&◌, ◌||◌, ◌==◌, List, [], ◌∷◌, length, get_or, Option, Some, None, refl, sym, ap, arith, ⊎_elim, eqb-true}
use Rattle.std.proofs.lemmas.{Bool.eq-eqb, Bool.ne_eqb, Bool.cases_lt, Bool.le-ltb, Bool.lt-ltb, Bool.eqb-false, List.Folds.list_any-append}
use Rattle.std.{proofs.Math.Bool.or-false, proofs.Math.Bool.and-false, specs.Prelude.nat_lt, specs.Prelude.slice_get, specs.List.list_any, specs.List.filter}
use Rattle.kp_ast.specs.declared.tree.{Expr.Expr, ReadStmt.ReadStmt, Stmt.Stmt, StmtKind.StmtKind, Block.Block, Job.Job}
use Rattle.kp_ast.specs.declared.tree.StmtKind.TheVariants as stmts
use Rattle.kp_stage.specs.Facts.{stmts_in}
use Rattle.kp_pipeline.specs.Sequential.{PendingGuess}
use Rattle.kp_machine.{specs.Machine.machine_of, specs.Machine.result_for, specs.Machine.write_stage_of, proofs.Cases.by_test}
use Rattle.kp_net.specs.{Nodes.Cells, Nodes.at, Nodes.on, Growth.Held}
use Rattle.kp_synth_registers.specs.{declared.outcome.Made.Made, declared.outcome.Outcome.Outcome, Holding.some_of, Holding.pending_guess}
use Rattle.kp_synth_registers.specs.Meaning.{guesses_at, made_values, guess_value, MadeFit}
use Rattle.kp_design.specs.declared.guess.GuessSlot.{GuessSlot}
use Rattle.kp_design.specs.{Numbers.no_guess, Numbers.with_read, Numbers.with_guess, Numbers.guesses_in, Numbers.guesses_from, Numbers.guesses_of, Spans.is_carried}
use Rattle.kp_synth_next.specs.Nexts.{no_made, outcome_at, made_at}

-- Some guess passes one test or the other.
pub some_same : (f h : ℕ → GuessSlot → Bool) (g : ℕ) (ss : List GuessSlot)
    → ((i n : ℕ) → i < length ss → n ≡ g + i → f n (get_or ss i no_guess) ≡ h n (get_or ss i no_guess)) → some_of f g ss ≡ some_of h g ss
some_same f h g [] e = refl
some_same f h g (s ∷ ss) e =
    let a : f g s ≡ h g s = e 0 g (omega arith) (omega arith) in
    let b : some_of f (suc g) ss ≡ some_of h (suc g) ss = some_same f h (suc g) ss (λ i n l m. e (suc i) n (omega arith) (omega arith)) in
    rw (a, b) refl

or_swap : (a b x y : Bool) → ((a || b) || (x || y)) ≡ ((a || x) || (b || y))
or_swap true b x y = refl
or_swap false true true y = refl
or_swap false true false y = refl
or_swap false false x y = refl

pub some_or : (f h : ℕ → GuessSlot → Bool) (g : ℕ) (ss : List GuessSlot) → some_of (λ n s. f n s || h n s) g ss ≡ (some_of f g ss || some_of h g ss)
some_or f h g [] = refl
some_or f h g (s ∷ ss) = ap (λ b. (f g s || h g s) || b) (some_or f h (suc g) ss) ∙ or_swap (f g s) (h g s) (some_of f (suc g) ss) (some_of h (suc g) ss)

pub some_none : (f : ℕ → GuessSlot → Bool) (g : ℕ) (ss : List GuessSlot) → ((n : ℕ) (s : GuessSlot) → f n s ≡ false) → some_of f g ss ≡ false
some_none f g [] e = refl
some_none f g (s ∷ ss) e = rw (e g s, some_none f (suc g) ss e) refl

pub some_any : (f : GuessSlot → Bool) (g : ℕ) (ss : List GuessSlot) → some_of (λ n s. f s) g ss ≡ list_any f ss
some_any f g [] = refl
some_any f g (s ∷ ss) = ap (λ b. f s || b) (some_any f (suc g) ss)

pub any_filter : {A : Type 0} (keep test : A → Bool) (xs : List A) → list_any test (filter keep xs) ≡ list_any (λ x. keep x && test x) xs
any_filter keep test [] = refl
any_filter keep test (x ∷ xs) = by_test (keep x)
    (λ b. rw b (ap (λ y. test x || y) (any_filter keep test xs)))
    (λ b. rw b (any_filter keep test xs))

-- The guessed reads of a stage have its number, and are numbered in it.
pub record IsSlot (job : Job) (k i : ℕ) (s : GuessSlot) : Type 0 where
  pub stage : s.stage ≡ k
  pub index : s.index ≡ i
  pub write : s.write ≡ write_stage_of (result_for job s.register)

abbrev pub Numbered : Job → ℕ → ℕ → List GuessSlot → Type 0
Numbered job k i [] = Unit {0}
Numbered job k i (s ∷ ss) = IsSlot job k i s × Numbered job k (suc i) ss

read_numbered : (job : Job) (k i : ℕ) (r : ReadStmt) (o : Option Expr) (rest : ℕ → List GuessSlot) → ((j : ℕ) → Numbered job k j (rest j)) → Numbered job k i (with_read job k i r o rest)
read_numbered job k i r None rest h = h i
read_numbered job k i r (Some e) rest h = (record { stage = refl; index = refl; write = refl }, h (suc i))

guess_numbered : (job : Job) (k i : ℕ) (s : StmtKind) (rest : ℕ → List GuessSlot) → ((j : ℕ) → Numbered job k j (rest j)) → Numbered job k i (with_guess job k i s rest)
guess_numbered job k i (stmts.Read r) rest h = read_numbered job k i r r.guess rest h
guess_numbered job k i _ rest h = h i

pub numbered : (job : Job) (k i : ℕ) (ss : List Stmt) → Numbered job k i (guesses_in job k i ss)
numbered job k i [] = tt
numbered job k i (s ∷ ss) = guess_numbered job k i s.kind (λ j. guesses_in job k j ss) (λ j. numbered job k j ss)

-- A guess is made in stage k and passes a test.
abbrev pub made_passes : Held → List Outcome → Cells → ℕ → (PendingGuess → Bool) → GuessSlot → Bool
made_passes p outs c k test s = (s.stage == k) && (on c p.nodes (made_at outs s).pending.0 && test (pending_guess s (at c p.nodes (made_at outs s).value.0)))

made_first : (b : Bool) (test : PendingGuess → Bool) (x : PendingGuess) (rest : List PendingGuess) (r : Bool) → list_any test rest ≡ r → list_any test (guess_value b x rest) ≡ ((b && test x) || r)
made_first true test x rest r e = ap (λ y. test x || y) e
made_first false test x rest r e = e

made_some : (job : Job) (p : Held) (outs : List Outcome) (c : Cells) (k : ℕ) (test : PendingGuess → Bool) (i : ℕ) (ss : List GuessSlot) (made : List Made)
    → Numbered job k i ss → MadeFit p ss made → ((j n : ℕ) → j < length ss → n ≡ i + j → get_or (outcome_at outs k).made n no_made ≡ get_or made j no_made)
    → list_any test (made_values c p ss made) ≡ list_any (made_passes p outs c k test) ss
made_some job p outs c k test i [] [] is fit at_place = refl
made_some job p outs c k test i [] (m ∷ made) is fit at_place = absurd fit
made_some job p outs c k test i (s ∷ ss) [] is fit at_place = absurd fit
made_some job p outs c k test i (s ∷ ss) (m ∷ made) is fit at_place =
    let here : get_or (outcome_at outs k).made i no_made ≡ m = at_place 0 i (omega arith) (omega arith) in
    let mine : made_at outs s ≡ m = ap (λ y. get_or (outcome_at outs y).made s.index no_made) is.0.stage ∙ ap (λ y. get_or (outcome_at outs k).made y no_made) is.0.index ∙ here in
    let more = made_some job p outs c k test (suc i) ss made is.1 fit.2 (λ j n l e. at_place (suc j) n (omega arith) (omega arith)) in
    let same : (s.stage == k) ≡ true = eq-eqb s.stage k is.0.stage in
    made_first (on c p.nodes m.pending.0) test (pending_guess s (at c p.nodes m.value.0)) (made_values c p ss made) _ more
    ∙ rw (mine, same) refl

-- Among all guesses only those of stage k are made in it.
elsewhere : (job : Job) (p : Held) (outs : List Outcome) (c : Cells) (k : ℕ) (test : PendingGuess → Bool) (b i : ℕ) (ss : List GuessSlot)
    → (b ≡ k → ⊥) → Numbered job b i ss → list_any (made_passes p outs c k test) ss ≡ false
elsewhere job p outs c k test b i [] d is = refl
elsewhere job p outs c k test b i (s ∷ ss) d is =
    let no : (s.stage == k) ≡ false = ne_eqb s.stage k (λ e. d (sym is.0.stage ∙ e)) in
    rw (no, elsewhere job p outs c k test b (suc i) ss d is.1) refl

made_past : (job : Job) (p : Held) (outs : List Outcome) (c : Cells) (k : ℕ) (test : PendingGuess → Bool) (b : ℕ) (bs : List Block)
    → k < b → list_any (made_passes p outs c k test) (guesses_from job b bs) ≡ false
made_past job p outs c k test b [] l = refl
made_past job p outs c k test b (x ∷ xs) l =
    list_any-append (made_passes p outs c k test) (guesses_in job b 0 x.stmts) (guesses_from job (suc b) xs)
    ∙ rw (elsewhere job p outs c k test b 0 (guesses_in job b 0 x.stmts) (λ e. absurd (omega arith)) (numbered job b 0 x.stmts), made_past job p outs c k test (suc b) xs (omega arith)) refl

made_here : (job : Job) (p : Held) (outs : List Outcome) (c : Cells) (k : ℕ) (test : PendingGuess → Bool) (b d : ℕ) (bs : List Block)
    → k ≡ b + d → list_any (made_passes p outs c k test) (guesses_from job b bs) ≡ list_any (made_passes p outs c k test) (guesses_in job k 0 (stmts_in (slice_get bs d)))
made_here job p outs c k test b d [] e = refl
made_here job p outs c k test b zero (x ∷ xs) e =
    let f : b ≡ k = omega arith in
    list_any-append (made_passes p outs c k test) (guesses_in job b 0 x.stmts) (guesses_from job (suc b) xs)
    ∙ rw (made_past job p outs c k test (suc b) xs (omega arith)) (or-false _)
    ∙ ap (λ y. list_any (made_passes p outs c k test) (guesses_in job y 0 x.stmts)) f
made_here job p outs c k test b (suc d) (x ∷ xs) e =
    list_any-append (made_passes p outs c k test) (guesses_in job b 0 x.stmts) (guesses_from job (suc b) xs)
    ∙ rw (elsewhere job p outs c k test b 0 (guesses_in job b 0 x.stmts) (λ f. absurd (omega arith)) (numbered job b 0 x.stmts)) (made_here job p outs c k test (suc b) d xs (omega arith))

-- So what is made in stage k, among all guesses.
pub made_among : (job : Job) (p : Held) (outs : List Outcome) (c : Cells) (k : ℕ) (test : PendingGuess → Bool)
    → MadeFit p (guesses_at job k) (outcome_at outs k).made
    → list_any test (made_values c p (guesses_at job k) (outcome_at outs k).made) ≡ some_of (λ n s. made_passes p outs c k test s) 0 (guesses_of job)
unfolding guesses_at guesses_of
made_among job p outs c k test fit =
    made_some job p outs c k test 0 (guesses_in job k 0 (stmts_in (slice_get job.blocks k))) (outcome_at outs k).made (numbered job k 0 (stmts_in (slice_get job.blocks k))) fit
    (λ j n l e. (let f : n ≡ j = omega arith in ap (λ y. get_or (outcome_at outs k).made y no_made) f))
    ∙ sym (made_here job p outs c k test 0 k job.blocks (omega arith))
    ∙ sym (some_any (made_passes p outs c k test) 0 (guesses_from job 0 job.blocks))

-- ONE GUESS in a cycle. It is carried to stage k + 1 (a) or to stage k (b), made in stage k (e), and written in stage k + 1 (q); it
-- is pending and passes after the cycle (x, y), as it was made (mx, my), as it was pending in stage k (ox, oy).
abbrev pub Moving : Bool → Bool → Bool → Bool → Type 0
Moving a b e q = (e ≡ true → (a ≡ true) × (b ≡ false) × (q ≡ false)) × (e ≡ false → a ≡ (b && not q))

pub moving : (a b e q x y mx my ox oy : Bool) → Moving a b e q → (a ≡ true → x ≡ cond e mx ox) → (a ≡ true → y ≡ cond e my oy)
    → (a && (x && y)) ≡ ((e && (mx && (not q && my))) || (b && (ox && (not q && oy))))
moving a b true q x y mx my ox oy h f g =
    let p = h.0 refl in
    rw (f p.0, g p.0, p.0, p.1, p.2) (sym (or-false (mx && my)))
moving a true false true x y mx my ox oy h f g = rw (h.1 refl) (sym (and-false ox))
moving a true false false x y mx my ox oy h f g = let p = h.1 refl in rw (f p, g p, p) refl
moving a false false q x y mx my ox oy h f g = rw (h.1 refl) refl

-- a bound that is one more
lt_next : (s k w : ℕ) (q : Bool) → q ≡ (w == suc k) → (s ≡ k → ⊥) → (nat_lt s (suc k) && nat_lt (suc k) w) ≡ ((nat_lt s k && nat_lt k w) && not q)
lt_next s k w q e d = ⊎_elim
    (λ (l : s < k). ⊎_elim
    (λ (m : suc k < w). (let n : q ≡ false = e ∙ ne_eqb w (suc k) (λ z. absurd (omega arith)) in
    rw (lt-ltb s (suc k) (omega arith), lt-ltb (suc k) w m, lt-ltb s k l, lt-ltb k w (omega arith), n) refl))
    (λ (m : w ≤ suc k). ⊎_elim
    (λ (o : k < w). (let n : q ≡ true = e ∙ eq-eqb w (suc k) (omega arith) in
    rw (lt-ltb s (suc k) (omega arith), le-ltb (suc k) w m, lt-ltb s k l, lt-ltb k w o, n) refl))
    (λ (o : w ≤ k). rw (lt-ltb s (suc k) (omega arith), le-ltb (suc k) w m, lt-ltb s k l, le-ltb k w o) refl)
    (cases_lt k w))
    (cases_lt (suc k) w))
    (λ (l : k ≤ s). (let far : suc k ≤ s = omega arith in rw (le-ltb s (suc k) far, le-ltb s k l) refl))
    (cases_lt s k)

-- what is known of each guess of a job
pub record IsGuess (job : Job) (s : GuessSlot) : Type 0 where
  pub write : s.write ≡ write_stage_of (result_for job s.register)
  pub fits : s.stage + 2 ≤ s.write

pub moves : (job : Job) (s : GuessSlot) (k : ℕ) → IsGuess job s
    → Moving (is_carried s (suc k)) (is_carried s k) (s.stage == k) ((machine_of job).write_stage s.register == suc k)
unfolding machine_of
moves job s k h = (here, there) where
  same : (write_stage_of (result_for job s.register) == suc k) ≡ (s.write == suc k)
  same = ap (λ (w : ℕ). w == suc k) (sym h.write)

  here : (s.stage == k) ≡ true → (is_carried s (suc k) ≡ true) × (is_carried s k ≡ false) × ((write_stage_of (result_for job s.register) == suc k) ≡ false)
  here e =
      let f : s.stage ≡ k = eqb-true s.stage k e in
      let a : nat_lt s.stage (suc k) ≡ true = lt-ltb s.stage (suc k) (omega arith) in
      let b : nat_lt (suc k) s.write ≡ true = lt-ltb (suc k) s.write (omega (arith, h.fits)) in
      let d : nat_lt s.stage k ≡ false = le-ltb s.stage k (omega arith) in
      (rw (a, b) refl, rw d refl, same ∙ ne_eqb s.write (suc k) (λ z. absurd (omega (arith, h.fits))))

  there : (s.stage == k) ≡ false → is_carried s (suc k) ≡ (is_carried s k && not (write_stage_of (result_for job s.register) == suc k))
  there e = lt_next s.stage k s.write (write_stage_of (result_for job s.register) == suc k) same (λ z. eqb-false s.stage k e z)
