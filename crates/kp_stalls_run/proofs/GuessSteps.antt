-- The steps of the loops over guesses, and the guesses that cells hold.
use Rattle.std.proofs.Common.{◌≡◌, ◌∙◌, ℕ, zero, suc, ◌+◌, ◌<◌, ◌≤◌, List, [], ◌∷◌, Option, Some, None, Bool, true, false, not, ◌&&◌, ◌||◌, cond, drop, eq-eqb, length, get_or, refl, ap, sym, arith}
use Rattle.std.proofs.lemmas.{Bool.ltb-true, List.drop_all, List.drop_more, Option.same_Some}
use Rattle.std.specs.{Prelude.◌==◌, Prelude.is_some, Prelude.nat_lt, List.list_any}
use Rattle.kp_bits.specs.Word.{Word, word}
use Rattle.kp_ast.specs.declared.tree.Job.{Job}
use Rattle.kp_net.specs.Nodes.{Cells}
use Rattle.kp_pipeline.specs.{Sequential.PendingGuess, Pipeline.Inputs, Pipeline.PipelineState, Pipeline.StageState}
use Rattle.kp_synth_registers.specs.declared.key.Key.TheVariants.{Pending, Guess}
use Rattle.kp_design.specs.declared.guess.GuessSlot.{GuessSlot}
use Rattle.kp_design.specs.{Numbers.guesses_of, Spans.is_carried, Numbers.target_at}
use Rattle.kp_synth_registers.specs.Holding.{Holds, guess_passes, kept_in, pending_guess, some_guess, some_of}
use Rattle.kp_stalls_run.specs.Guessed.{agreed, as_word, first_guess, guessed_value, guessed_word, is_other_guess}
use Rattle.kp_stalls_run.specs.inner.Held.{first_word, held_from, is_disputed, is_other_value, value_of, word_of}
use Rattle.kp_stalls_run.proofs.Agreeing.{same_value}
use Rattle.kp_machine.proofs.Cases.{by_test}

abbrev or_else : {X : Type 0} → Option X → Option X → Option X
or_else None next = next
or_else (Some v) next = Some v

word_else : (w : ℕ) (o next : Option ℕ) → as_word w (or_else o next) ≡ or_else (as_word w o) (as_word w next)
word_else w None next = refl
word_else w (Some v) next = refl

module _ (t : ℕ) (p : PendingGuess) (rest : List PendingGuess) where
  first_is : (c : Bool) → cond c (Some p.value) (first_guess t rest) ≡ or_else (cond c (Some p.value) None) (first_guess t rest)
  first_is true = refl
  first_is false = refl

  first_with : (a b : Bool) → first_guess t (cond (a && b) (p ∷ rest) rest) ≡ or_else (cond (a && (b && (p.register == t))) (Some p.value) None) (first_guess t rest)
  first_with false b = refl
  first_with true false = refl
  first_with true true = first_is (p.register == t)

  other_is : (w v : ℕ) (c : Bool)
      → ((c && not (p.value == v)) || list_any (is_other_guess t v) rest) ≡ (is_other_value v (as_word w (cond c (Some p.value) None)) || list_any (is_other_guess t v) rest)
  other_is w v true = refl
  other_is w v false = refl

  other_with : (w v : ℕ) (a b : Bool) → list_any (is_other_guess t v) (cond (a && b) (p ∷ rest) rest)
      ≡ (is_other_value v (as_word w (cond (a && (b && (p.register == t))) (Some p.value) None)) || list_any (is_other_guess t v) rest)
  other_with w v false b = refl
  other_with w v true false = refl
  other_with w v true true = other_is w v (p.register == t)

  any_with : (test : PendingGuess → Bool) (a b : Bool) → list_any test (cond (a && b) (p ∷ rest) rest) ≡ ((a && (b && test p)) || list_any test rest)
  any_with test false b = refl
  any_with test true false = refl
  any_with test true true = refl

module _ (job : Job) (c : Cells) (k t : ℕ) where
  abbrev width : ℕ
  width = (target_at job t).width

  -- a guess and those after it
  held_more : (gs : List GuessSlot) (g : ℕ) (d : GuessSlot) → g < length gs
      → held_from job c k g (drop g gs)
      ≡ cond (is_carried (get_or gs g d) k && (kept_in job c (Pending g k) == 1))
      (pending_guess (get_or gs g d) (kept_in job c (Guess g k)) ∷ held_from job c k (g + 1) (drop (g + 1) gs)) (held_from job c k (g + 1) (drop (g + 1) gs))
  held_more gs g d b =
      let s = get_or gs g d in
      let one : suc g ≡ g + 1 = omega arith in
      ap (held_from job c k g) (drop_more gs g d b)
      ∙ (λ i. cond (is_carried s k && (kept_in job c (Pending g k) == 1)) (pending_guess s (kept_in job c (Guess g k)) ∷ held_from job c k (one i) (drop (g + 1) gs))
      (held_from job c k (one i) (drop (g + 1) gs)))

  -- THE FIRST GUESS of a register.
  first_step : (gs : List GuessSlot) (g : ℕ) (d : GuessSlot) (o : Option Word) → g < length gs → word_of job c k t g (get_or gs g d) ≡ o
      → first_word job c k t g (drop g gs) ≡ or_else o (first_word job c k t (g + 1) (drop (g + 1) gs))
  first_step gs g d o b e =
      let s = get_or gs g d in
      let rest = held_from job c k (g + 1) (drop (g + 1) gs) in
      ap (λ l. as_word width (first_guess t l)) (held_more gs g d b)
      ∙ ap (as_word width) (first_with t (pending_guess s (kept_in job c (Guess g k))) rest (is_carried s k) (kept_in job c (Pending g k) == 1))
      ∙ word_else width (value_of job c k t g s) (first_guess t rest)
      ∙ ap (λ x. or_else x (as_word width (first_guess t rest))) e

  pub first_here : (gs : List GuessSlot) (g : ℕ) (d : GuessSlot) (o : Option Word) → g < length gs → word_of job c k t g (get_or gs g d) ≡ o → is_some o ≡ true
      → first_word job c k t g (drop g gs) ≡ o
  first_here gs g d None b e s = cc
  first_here gs g d (Some v) b e s = first_step gs g d (Some v) b e

  pub first_next : (gs : List GuessSlot) (g : ℕ) (d : GuessSlot) (o : Option Word) → g < length gs → word_of job c k t g (get_or gs g d) ≡ o → is_some o ≡ false
      → first_word job c k t g (drop g gs) ≡ first_word job c k t (g + 1) (drop (g + 1) gs)
  first_next gs g d None b e s = first_step gs g d None b e
  first_next gs g d (Some v) b e s = cc

  pub first_end : (gs : List GuessSlot) (g : ℕ) → length gs ≤ g → first_word job c k t g (drop g gs) ≡ None
  first_end gs g b = ap (λ l. first_word job c k t g l) (drop_all g gs b)

  -- ANOTHER GUESS of it.
  other_step : (v : ℕ) (gs : List GuessSlot) (g : ℕ) (d : GuessSlot) (o : Option Word) (x : Bool) → g < length gs → word_of job c k t g (get_or gs g d) ≡ o → is_other_value v o ≡ x
      → list_any (is_other_guess t v) (held_from job c k g (drop g gs)) ≡ (x || list_any (is_other_guess t v) (held_from job c k (g + 1) (drop (g + 1) gs)))
  other_step v gs g d o x b e h =
      let s = get_or gs g d in
      let rest = held_from job c k (g + 1) (drop (g + 1) gs) in
      ap (list_any (is_other_guess t v)) (held_more gs g d b)
      ∙ other_with t (pending_guess s (kept_in job c (Guess g k))) rest width v (is_carried s k) (kept_in job c (Pending g k) == 1)
      ∙ ap (λ y. is_other_value v y || list_any (is_other_guess t v) rest) e
      ∙ ap (λ y. y || list_any (is_other_guess t v) rest) h

  pub other_here : (v : ℕ) (gs : List GuessSlot) (g : ℕ) (d : GuessSlot) (o : Option Word) → g < length gs → word_of job c k t g (get_or gs g d) ≡ o → is_other_value v o ≡ true
      → list_any (is_other_guess t v) (held_from job c k g (drop g gs)) ≡ true
  other_here v gs g d o b e h = other_step v gs g d o true b e h

  pub other_next : (v : ℕ) (gs : List GuessSlot) (g : ℕ) (d : GuessSlot) (o : Option Word) → g < length gs → word_of job c k t g (get_or gs g d) ≡ o → is_other_value v o ≡ false
      → list_any (is_other_guess t v) (held_from job c k g (drop g gs)) ≡ list_any (is_other_guess t v) (held_from job c k (g + 1) (drop (g + 1) gs))
  other_next v gs g d o b e h = other_step v gs g d o false b e h

  pub other_end : (v : ℕ) (gs : List GuessSlot) (g : ℕ) → length gs ≤ g → list_any (is_other_guess t v) (held_from job c k g (drop g gs)) ≡ false
  other_end v gs g b = ap (λ l. list_any (is_other_guess t v) (held_from job c k g l)) (drop_all g gs b)

  -- A GUESS of it that is pending.
  pub is_pending : (g : ℕ) (s : GuessSlot) (w : Word) → is_carried s k ≡ true → kept_in job c (Pending g k) ≡ 1 → s.register ≡ t → s.width ≡ (target_at job s.register).width
      → w ≡ word s.width (kept_in job c (Guess g k)) → Some w ≡ word_of job c k t g s
  is_pending g s w carried pending register sized e =
      let v = kept_in job c (Guess g k) in
      let one = eq-eqb (kept_in job c (Pending g k)) 1 pending in
      let same = eq-eqb s.register t register in
      ap (λ (x : Word). Some x) (e ∙ ap (λ n. word n v) (sized ∙ ap (λ (r : ℕ). (target_at job r).width) register))
      ∙ sym (λ i. as_word width (cond (carried i && (one i && same i)) (Some v) None))

-- THE GUESSES THAT CELLS HOLD pass the tests that those of the stage pass.
module _ (job : Job) (c : Cells) where
  tested : (k : ℕ) (test : PendingGuess → Bool) (g : ℕ) (gs : List GuessSlot) → list_any test (held_from job c k g gs) ≡ some_of (guess_passes job c k test) g gs
  tested k test g [] = refl
  tested k test g (s ∷ gs) =
      any_with 0 (pending_guess s (kept_in job c (Guess g k))) (held_from job c k (suc g) gs) test (is_carried s k) (kept_in job c (Pending g k) == 1)
      ∙ ap (λ x. guess_passes job c k test g s || x) (tested k test (suc g) gs)

  none_held : (g : ℕ) (gs : List GuessSlot) → held_from job c 0 g gs ≡ []
  none_held g [] = refl
  none_held g (s ∷ gs) = by_test (nat_lt s.stage 0)
      (λ e. (let b : s.stage < 0 = ltb-true s.stage 0 e in absurd (omega (arith, b))))
      (λ e.
      ap
      (λ x. cond ((x && nat_lt 0 s.write) && (kept_in job c (Pending g 0) == 1)) (pending_guess s (kept_in job c (Guess g 0)) ∷ held_from job c 0 (suc g) gs) (held_from job c 0 (suc g) gs))
      e
      ∙ none_held (suc g) gs)

  all_tested : (k : ℕ) (test : PendingGuess → Bool) → list_any test (held_from job c k 0 (guesses_of job)) ≡ some_guess job c k test
  unfolding some_guess
  all_tested k test = tested k test 0 (guesses_of job)

  held_value : (k t : ℕ) (st : PipelineState) (i : Inputs) → k < job.stages.value → Holds job c st i
      → guessed_value t (held_from job c k 0 (guesses_of job)) ≡ guessed_value t (st.stage k).pending
  held_value zero t st i b h = ap (guessed_value t) (none_held 0 (guesses_of job)) ∙ ap (λ (s : StageState). guessed_value t s.pending) (sym h.first)
  held_value (suc k) t st i b h = same_value t _ _ (λ test. all_tested (suc k) test ∙ h.pending (suc k) (omega arith) b test)

-- THE GUESSED VALUE, from the guesses that the cells hold.
module _ (job : Job) (c : Cells) (k t : ℕ) (st : PipelineState) (i : Inputs) (b : k < job.stages.value) (h : Holds job c st i) where
  abbrev held : List PendingGuess
  held = held_from job c k 0 (guesses_of job)

  found_none : (o : Option ℕ) → first_guess t held ≡ o → as_word (target_at job t).width o ≡ None → None ≡ guessed_word job t (st.stage k).pending
  found_none None e n = ap (λ x. as_word (target_at job t).width (agreed t held x)) (sym e) ∙ ap (as_word (target_at job t).width) (held_value job c k t st i b h)
  found_none (Some v) e n = cc

  as_cond : (w v : ℕ) (x : Bool) → cond x None (Some (word w v)) ≡ as_word w (cond x None (Some v))
  as_cond w v true = refl
  as_cond w v false = refl

  found_some : (w : Word) (o : Option ℕ) (x : Bool) → first_guess t held ≡ o → as_word (target_at job t).width o ≡ Some w → list_any (is_other_guess t w.value) held ≡ x
      → cond x None (Some w) ≡ guessed_word job t (st.stage k).pending
  found_some w None x e n d = cc
  found_some w (Some v) x e n d =
      let same : word (target_at job t).width v ≡ w = same_Some _ w n in
      let other : list_any (is_other_guess t v) held ≡ x = ap (λ (y : Word). list_any (is_other_guess t y.value) held) same ∙ d in
      ap (λ (y : Word). cond x None (Some y)) (sym same)
      ∙ as_cond (target_at job t).width v x
      ∙ ap (λ y. as_word (target_at job t).width (cond y None (Some v))) (sym other)
      ∙ ap (λ y. as_word (target_at job t).width (agreed t held y)) (sym e)
      ∙ ap (as_word (target_at job t).width) (held_value job c k t st i b h)

  pub disputed : (o : Option Word) → o ≡ first_word job c k t 0 (guesses_of job) → is_disputed t held o ≡ true → None ≡ guessed_word job t (st.stage k).pending
  disputed None e d = cc
  disputed (Some w) e d = found_some w (first_guess t held) true refl (sym e) d

  pub undisputed : (o : Option Word) → o ≡ first_word job c k t 0 (guesses_of job) → is_disputed t held o ≡ false → o ≡ guessed_word job t (st.stage k).pending
  undisputed None e d = found_none (first_guess t held) refl (sym e)
  undisputed (Some w) e d = found_some w (first_guess t held) false refl (sym e) d
