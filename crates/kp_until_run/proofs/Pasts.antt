-- The states of the sequential machine by the histories of its targets.
use Rattle.std.proofs.Common.{◌≡◌, ◌≢◌, ◌∙◌, ℕ, ◌+◌, ◌^◌, ◌<◌, ◌≤◌, Bool, true, false, List, length, Option, Some, refl, ap, sym, subst, arith, ⊎_elim}
use Rattle.std.proofs.lemmas.Bool.{both_ways, cases_lt, eqb-true, le-ltb, lt-ltb, ltb-true}
use Rattle.std.specs.Prelude.{◌==◌, nat_lt, if◌then◌else◌}
use Rattle.kp_ast.specs.declared.tree.Job.{Job}
use Rattle.kp_bits.specs.Word.{Word, word}
use Rattle.kp_cycle.specs.Steps.{Running}
use Rattle.kp_machine.specs.{Slots.Slot, Slots.targets_of, Words.HasWord, Words.target}
use Rattle.kp_net.specs.Netlist.{Net}
use Rattle.kp_pipeline.specs.Rows.{bit, bits, one_if, passed}
use Rattle.kp_run.specs.{Cycles.after_cycles, Homes.home_of, Places.place_in, Places.word_at, Places.words_at}
use Rattle.kp_run.proofs.Placing.{place_shown}
use Rattle.kp_run.specs.declared.places.Place.{Place}
use Rattle.kp_sched.specs.Rows.{bit_of}
use Rattle.kp_implements.specs.{Shows.IsOfJob}
use Rattle.kp_watch.{specs.inner.Changes.AreNoted, specs.inner.Changes.noted_at, proofs.Kept.value_kept}
use Rattle.kp_until.specs.Untils.{AreSame}
use Rattle.kp_until_run.specs.Ending.{own_rows, retired_in, states_in}
use Rattle.kp_until_run.specs.inner.{Histories.Remembers, Pasts.updates_in, Pasts.words_after, Pasts.AreNear, Pasts.IsHistory, Pasts.Shown, Pasts.Updates}
use Rattle.kp_until_run.specs.declared.history.History.{History}

-- ---- the number of words

pub words_there : (net : Net) (s : Slot) → words_at (place_in net s) ≡ 2 ^ s.address
words_there net s = go (s.address == 0) refl
  where
    go : (b : Bool) → (s.address == 0) ≡ b → words_at (place_in net s) ≡ 2 ^ s.address
    go true e = rw e (ap (λ (n : ℕ). 2 ^ n) (sym (eqb-true s.address 0 e)))
    go false e = rw e refl

-- ---- a state that is remembered

module _ (job : Job) (limit n t : ℕ) (h : History) (near : AreNear job limit n) (is : IsHistory job limit n t h) where
  -- a target without a result has no updates
  none_updated : job.stages.value ≤ home_of job t → h.count ≡ 0
  none_updated past = is.count ∙ ap (λ (b : Bool). if b then passed (own_rows job n) (home_of job t) n else 0) (le-ltb (home_of job t) job.stages.value past)

  module _ (r count : ℕ) (now : r ≡ retired_in job n) (few : count ≤ r) (many : r ≤ count + 4) where
    -- its word after so many instructions
    pub word_then : (a : ℕ) (w : Word)
        → ((f : ℕ → ℕ → Word) (size : ℕ) → Remembers f size h → h.count ≤ count + 16 → count ≤ h.count → w ≡ f count a)
        → ((f : ℕ → ℕ → Word) (size : ℕ) → Remembers f size h → h.count ≤ count → w ≡ f h.count a)
        → w ≡ words_after job limit t count a
    word_then a w before all = ⊎_elim
        (λ (here : home_of job t < job.stages.value).
        let low = near.some t here in
        let high = near.few t here in
        before (words_after job limit t) (2 ^ (target job t).address) is.words (omega (arith, is.count, high, many, now)) (omega (arith, is.count, low, few, now)))
        (λ (past : job.stages.value ≤ home_of job t).
        let none = none_updated past in
        all (words_after job limit t) (2 ^ (target job t).address) is.words (omega (arith, none))
        ∙ ap (λ (i : ℕ). words_after job limit t i a) none
        ∙ ap (word (target job t).width) (sym (near.stays t count a past)))
        (cases_lt (home_of job t) job.stages.value)

    -- its words after so many, and after those that have retired
    pub same_then : (b : Bool)
        → (b ≡ true → (f : ℕ → ℕ → Word) (size : ℕ) → Remembers f size h → h.count ≤ count + 16 → count ≤ r → r ≤ h.count → (a : ℕ) → a < size → (f count a).value ≡ (f r a).value)
        → b ≡ true → (a : ℕ) → HasWord job t a → states_in job limit count t a ≡ states_in job limit r t a
    same_then b alike is_true a there = ⊎_elim
        (λ (here : home_of job t < job.stages.value).
        let low = near.some t here in
        let high = near.few t here in
        alike is_true (words_after job limit t) (2 ^ (target job t).address) is.words (omega (arith, is.count, high, many, now)) few (omega (arith, is.count, low, now)) a there.address)
        (λ (past : job.stages.value ≤ home_of job t). near.stays t count a past ∙ sym (near.stays t r a past))
        (cases_lt (home_of job t) job.stages.value)

    pub other_then : (b : Bool) → t < length (targets_of job.decls)
        → (b ≡ false → (f : ℕ → ℕ → Word) (size : ℕ) → Remembers f size h → h.count ≤ count + 16 → count ≤ r → r ≤ h.count → ((a : ℕ) → a < size → (f count a).value ≡ (f r a).value) → ⊥)
        → (h.count ≤ count → b ≡ true) → b ≡ false → AreSame job (states_in job limit count) (states_in job limit r) → ⊥
    other_then b there differ all is_false same = ⊎_elim
        (λ (here : home_of job t < job.stages.value).
        let low = near.some t here in
        let high = near.few t here in
        differ is_false (words_after job limit t) (2 ^ (target job t).address) is.words (omega (arith, is.count, high, many, now)) few (omega (arith, is.count, low, now))
        (λ a h2. same t a (record { target = there; address = h2 })))
        (λ (past : job.stages.value ≤ home_of job t). let none = none_updated past in both_ways b is_false (all (omega (arith, none))))
        (cases_lt (home_of job t) job.stages.value)

-- ---- one cycle more

module _ (job : Job) (net : Net) (limit n t : ℕ) (old new : History) (is : IsHistory job limit n t old) (ue : ℕ) (updates : Updates job n ue) where
  abbrev updates_here : Bool
  updates_here = bit (bits (bit_of ue) job.stages.value 0) (home_of job t)

  counted : home_of job t < job.stages.value → updates_in job (n + 1) t ≡ updates_in job n t + one_if updates_here
  counted here =
      rw (lt-ltb (home_of job t) job.stages.value here) (updates (home_of job t) here)

  more : (b : Bool) → (nat_lt (home_of job t) job.stages.value) ≡ b → updates_here ≡ false → updates_in job n t ≡ updates_in job (n + 1) t
  more true e off = let c = counted (ltb-true (home_of job t) job.stages.value e) in let o = ap one_if off in omega (arith, c, o)
  more false e off = rw e refl

  -- it isn't updated
  pub not_updated : updates_here ≡ false → IsHistory job limit (n + 1) t old
  not_updated off = record { count = is.count ∙ more (nat_lt (home_of job t) job.stages.value) refl off; words = is.words }

  -- it is
  pub is_updated : IsOfJob net job → Shown job net limit → n < limit → t < length (targets_of job.decls) → updates_here ≡ true → home_of job t < job.stages.value
      → (written : List (Option ℕ)) → AreNoted job net n written → (place : Place) → place ≡ place_in net (target job t) → (sim : Running) → sim ≡ after_cycles job net (n + 1)
      → new.count ≡ old.count + 1
      → ((f : ℕ → ℕ → Word) → Remembers f (words_at place) old
      → ((a : ℕ) → a < words_at place → noted_at written place ≢ Some a → f (old.count + 1) a ≡ f old.count a)
      → ((a : ℕ) → a < words_at place → f (old.count + 1) a ≡ word_at sim place a)
      → Remembers f (words_at place) new)
      → IsHistory job limit (n + 1) t new
  is_updated of_job shown low there on here written noted place placed sim simulated count remembers =
      let more_one : updates_in job (n + 1) t ≡ updates_in job n t + 1 = let c = counted here in let o = ap one_if on in omega (arith, c, o) in
      let size : words_at place ≡ 2 ^ (target job t).address = ap words_at placed ∙ words_there net (target job t) in
      let next : old.count + 1 ≡ updates_in job (n + 1) t = omega (arith, is.count, more_one) in
      record {
        count = omega (arith, count, next);
        words = subst (λ (s : ℕ). Remembers (words_after job limit t) s new) size
            (remembers (words_after job limit t) (subst (λ (s : ℕ). Remembers (words_after job limit t) s old) (sym size) is.words)
            (λ a h other.
            let word_there : HasWord job t a = record { target = there; address = omega (arith, h, size) } in
            ap (λ (i : ℕ). words_after job limit t i a) next
            ∙ ap (word (target job t).width) (sym (shown (n + 1) t a (omega (arith, low)) word_there)
            ∙ value_kept job net of_job n written noted t a word_there (λ e. other (ap (noted_at written) placed ∙ e))
            ∙ shown n t a (omega (arith, low)) word_there)
            ∙ ap (λ (i : ℕ). words_after job limit t i a) (sym is.count))
            (λ a h.
            let word_there : HasWord job t a = record { target = there; address = omega (arith, h, size) } in
            ap (λ (i : ℕ). words_after job limit t i a) next
            ∙ ap (word (target job t).width) (sym (shown (n + 1) t a (omega (arith, low)) word_there))
            ∙ sym (place_shown job (after_cycles job net (n + 1)) t place a of_job there placed)
            ∙ ap (λ (r : Running). word_at r place a) (sym simulated)));
      }
