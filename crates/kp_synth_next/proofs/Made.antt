-- The nodes of a guess, among those of its stage.
use Rattle.std.proofs.Common.{◌≡◌, ◌∙◌, ℕ, zero, suc, ◌+◌, ◌<◌, ◌≤◌, List, [], ◌∷◌, ◌++◌, length, get_or, refl, sym, ap, subst, arith, ⊎_elim, ◌⊎◌, inl, inr}
use Rattle.std.specs.Prelude.{slice_get}
use Rattle.kp_ast.specs.declared.tree.{Block.Block, Job.Job}
use Rattle.kp_stage.specs.Facts.{stmts_in}
use Rattle.kp_net.specs.Growth.{Held, Wire}
use Rattle.kp_design.specs.{declared.guess.GuessSlot.GuessSlot, Numbers.no_guess, Numbers.guesses_in, Numbers.guesses_from, Numbers.guesses_of, Numbers.guess_at}
use Rattle.kp_synth_registers.specs.{declared.outcome.Made.Made, declared.outcome.Outcome.Outcome, Meaning.guesses_at, Meaning.MadeFit, Meaning.Says}
use Rattle.kp_synth_next.{specs.Nexts.no_made, specs.Nexts.outcome_at, specs.Nexts.made_at, proofs.Guesses.Numbered, proofs.Guesses.numbered}

abbrev InSlots : GuessSlot → List GuessSlot → Type 0
InSlots s [] = ⊥
InSlots s (x ∷ xs) = (s ≡ x) ⊎ InSlots s xs

got : (ss : List GuessSlot) (g : ℕ) → g < length ss → InSlots (get_or ss g no_guess) ss
got [] g l = absurd (omega arith)
got (s ∷ ss) zero l = inl refl
got (s ∷ ss) (suc g) l = inr (got ss g (omega arith))

parted : (s : GuessSlot) (xs ys : List GuessSlot) → InSlots s (xs ++ ys) → InSlots s xs ⊎ InSlots s ys
parted s [] ys h = inr h
parted s (x ∷ xs) ys h = ⊎_elim
    (λ (e : s ≡ x). inl (inl e))
    (λ (m : InSlots s (xs ++ ys)). ⊎_elim (λ (a : InSlots s xs). inl (inr a)) (λ (b : InSlots s ys). inr b) (parted s xs ys m))
    h

staged : (job : Job) (k i : ℕ) (s : GuessSlot) (ss : List GuessSlot) → Numbered job k i ss → InSlots s ss → s.stage ≡ k
staged job k i s [] is h = absurd h
staged job k i s (x ∷ xs) is h = ⊎_elim (λ (e : s ≡ x). ap (λ (y : GuessSlot). y.stage) e ∙ is.0.stage) (λ (m : InSlots s xs). staged job k (suc i) s xs is.1 m) h

indexed : (job : Job) (k i : ℕ) (s : GuessSlot) (ss : List GuessSlot) → Numbered job k i ss → InSlots s ss → i ≤ s.index
indexed job k i s [] is h = absurd h
indexed job k i s (x ∷ xs) is h = ⊎_elim
    (λ (e : s ≡ x). (let f : s.index ≡ i = ap (λ (y : GuessSlot). y.index) e ∙ is.0.index in omega arith))
    (λ (m : InSlots s xs). (let l = indexed job k (suc i) s xs is.1 m in omega arith))
    h

past : (job : Job) (s : GuessSlot) (b : ℕ) (bs : List Block) → InSlots s (guesses_from job b bs) → b ≤ s.stage
past job s b [] h = absurd h
past job s b (x ∷ xs) h = ⊎_elim
    (λ (m : InSlots s (guesses_in job b 0 x.stmts)). (let e = staged job b 0 s (guesses_in job b 0 x.stmts) (numbered job b 0 x.stmts) m in omega arith))
    (λ (m : InSlots s (guesses_from job (suc b) xs)). (let l = past job s (suc b) xs m in omega arith))
    (parted s (guesses_in job b 0 x.stmts) (guesses_from job (suc b) xs) h)

in_stage : (job : Job) (s : GuessSlot) (k b d : ℕ) (bs : List Block) → InSlots s (guesses_from job b bs) → s.stage ≡ k → k ≡ b + d → InSlots s (guesses_in job k 0 (stmts_in (slice_get bs d)))
in_stage job s k b d [] h e f = absurd h
in_stage job s k b zero (x ∷ xs) h e f =
    let z : b ≡ k = omega arith in
    ⊎_elim
    (λ (m : InSlots s (guesses_in job b 0 x.stmts)). subst (λ y. InSlots s (guesses_in job y 0 x.stmts)) z m)
    (λ (m : InSlots s (guesses_from job (suc b) xs)). (let l = past job s (suc b) xs m in absurd (omega arith)))
    (parted s (guesses_in job b 0 x.stmts) (guesses_from job (suc b) xs) h)
in_stage job s k b (suc d) (x ∷ xs) h e f = ⊎_elim
    (λ (m : InSlots s (guesses_in job b 0 x.stmts)). (let g = staged job b 0 s (guesses_in job b 0 x.stmts) (numbered job b 0 x.stmts) m in absurd (omega arith)))
    (λ (m : InSlots s (guesses_from job (suc b) xs)). in_stage job s k (suc b) d xs m e (omega arith))
    (parted s (guesses_in job b 0 x.stmts) (guesses_from job (suc b) xs) h)

pub record MadeThere (p : Held) (s : GuessSlot) (made : List Made) (j : ℕ) : Type 0 where
  pub inside : j < length made
  pub pending : Wire p (get_or made j no_made).pending 1
  pub value : Wire p (get_or made j no_made).value s.width

there_at : (job : Job) (p : Held) (k i j : ℕ) (s : GuessSlot) (ss : List GuessSlot) (made : List Made) → Numbered job k i ss → InSlots s ss → MadeFit p ss made → s.index ≡ i + j → MadeThere p s made j
there_at job p k i j s [] made is h fit e = absurd h
there_at job p k i j s (x ∷ xs) [] is h fit e = absurd fit
there_at job p k i zero s (x ∷ xs) (m ∷ made) is h fit e = ⊎_elim
    (λ (f : s ≡ x). record { inside = omega arith; pending = fit.0; value = subst (λ (y : GuessSlot). Wire p m.value y.width) (sym f) fit.1 })
    (λ (n : InSlots s xs). (let l = indexed job k (suc i) s xs is.1 n in absurd (omega arith)))
    h
there_at job p k i (suc j) s (x ∷ xs) (m ∷ made) is h fit e = ⊎_elim
    (λ (f : s ≡ x). (let g : s.index ≡ i = ap (λ (y : GuessSlot). y.index) f ∙ is.0.index in absurd (omega arith)))
    (λ (n : InSlots s xs). (let t = there_at job p k (suc i) j s xs made is.1 n fit.2 (omega arith) in record { inside = omega (arith, t.inside); pending = t.pending; value = t.value }))
    h

pub made_there : (job : Job) (p : Held) (k g : ℕ) (out : Outcome) → g < length (guesses_of job) → (guess_at job g).stage ≡ k → Says job p k out
    → MadeThere p (guess_at job g) out.made (guess_at job g).index
unfolding guesses_of guesses_at
made_there job p k g out l e says =
    there_at job p k 0 (guess_at job g).index (guess_at job g) (guesses_in job k 0 (stmts_in (slice_get job.blocks k))) out.made (numbered job k 0 (stmts_in (slice_get job.blocks k)))
    (in_stage job (guess_at job g) k 0 k job.blocks (got (guesses_from job 0 job.blocks) g l) e (omega arith)) says.made_wires (omega arith)

-- the same for a slot that is that of the guess
pub made_inside : (job : Job) (p : Held) (outs : List Outcome) (k g : ℕ) (s : GuessSlot) → s ≡ guess_at job g → g < length (guesses_of job) → s.stage ≡ k → Says job p k (outcome_at outs k)
    → s.index < length (outcome_at outs s.stage).made
made_inside job p outs k g s q l e says =
    let f : (guess_at job g).stage ≡ k = ap (λ (x : GuessSlot). x.stage) (sym q) ∙ e in
    let t = made_there job p k g (outcome_at outs k) l f says in
    let i : s.index ≡ (guess_at job g).index = ap (λ (x : GuessSlot). x.index) q in
    let m : length (outcome_at outs s.stage).made ≡ length (outcome_at outs k).made = ap (λ n. length (outcome_at outs n).made) e in
    omega (arith, t.inside, i, m)

pub made_wires : (job : Job) (p : Held) (outs : List Outcome) (k g : ℕ) (s : GuessSlot) → s ≡ guess_at job g → g < length (guesses_of job) → s.stage ≡ k → Says job p k (outcome_at outs k)
    → Wire p (made_at outs s).pending 1 × Wire p (made_at outs s).value (guess_at job g).width
made_wires job p outs k g s q l e says =
    let f : (guess_at job g).stage ≡ k = ap (λ (x : GuessSlot). x.stage) (sym q) ∙ e in
    let t = made_there job p k g (outcome_at outs k) l f says in
    let i : get_or (outcome_at outs k).made (guess_at job g).index no_made ≡ made_at outs s = rw (e, q) refl in
    (subst (λ (m : Made). Wire p m.pending 1) i t.pending, subst (λ (m : Made). Wire p m.value (guess_at job g).width) i t.value)
