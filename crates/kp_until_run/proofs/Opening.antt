-- The histories of all targets, one after another.
use Rattle.std.proofs.Common.{◌≡◌, ◌≢◌, ◌∙◌, ℕ, ◌+◌, ◌^◌, ◌<◌, ◌≤◌, List, [], ◌∷◌, ◌++◌, length, get_or, set, Bool, true, false, Option, Some, refl, ap, sym, subst, arith, ⊎_elim}
use Rattle.std.proofs.lemmas.{Bool.both_ways, Bool.cases_lt, Bool.cases_eq, List.get_or_append_left, List.get_or_push, List.get_or-set_other, Grind.get_or-set_at}
use Rattle.std.specs.Prelude.{nat_lt, if◌then◌else◌}
use Rattle.kp_ast.specs.declared.tree.Job.{Job}
use Rattle.kp_bits.specs.Word.{Word, word}
use Rattle.kp_cycle.specs.Steps.{Running}
use Rattle.kp_machine.specs.{Slots.targets_of, Words.target}
use Rattle.kp_net.specs.Netlist.{Net}
use Rattle.kp_pipeline.specs.Rows.{bit, bits, passed}
use Rattle.kp_run.specs.{Cycles.after_cycles, Homes.home_of, Places.place_in, Places.word_at, Places.words_at}
use Rattle.kp_run.proofs.{Gathering.bit_past, Placing.place_shown}
use Rattle.kp_run.specs.declared.places.Place.{Place}
use Rattle.kp_sched.specs.Rows.{bit_of}
use Rattle.kp_implements.specs.Shows.{IsOfJob}
use Rattle.kp_watch.specs.inner.Changes.{AreNoted, noted_at}
use Rattle.kp_until_run.specs.Ending.{own_rows}
use Rattle.kp_until_run.specs.inner.{Histories.Remembers, Pasts.updates_in, Pasts.words_after, Pasts.IsHistory, Pasts.Shown, Pasts.Updates}
use Rattle.kp_until_run.specs.declared.history.History.{History}
use Rattle.kp_until_run.proofs.Pasts.{is_updated, not_updated, words_there}

-- one item more
pub more_items : {X : Type 0} (P : ℕ → X → Type 0) (xs : List X) (x : X) (n : ℕ) → length xs ≡ n → ((u : ℕ) (d : X) → u < n → P u (get_or xs u d)) → P n x
    → (u : ℕ) (d : X) → u < n + 1 → P u (get_or (xs ++ x ∷ []) u d)
more_items P xs x n many before last u d h = ⊎_elim
    (λ (l : u < n). subst (P u) (sym (get_or_append_left xs (x ∷ []) d u (omega (arith, l, many)))) (before u d l))
    (λ (l : n ≤ u).
    let e : u ≡ n = omega (arith, h, l) in
    subst (λ (k : ℕ). P k (get_or (xs ++ x ∷ []) k d)) (sym e) (subst (P n) (sym (get_or_push xs x d n many)) last))
    (cases_lt u n)

-- one item is replaced
pub done_more : {X : Type 0} (P : ℕ → X → Type 0) (xs : List X) (x : X) (n : ℕ) → n < length xs → ((u : ℕ) (d : X) → u < n → P u (get_or xs u d)) → P n x
    → (u : ℕ) (d : X) → u < n + 1 → P u (get_or (set xs n x) u d)
done_more P xs x n there before last u d h = ⊎_elim
    (λ (same : u ≡ n). subst (P u) (sym (get_or-set_at xs n u x d same there)) (subst (λ (k : ℕ). P k x) (sym same) last))
    (λ (other : u ≡ n → ⊥). subst (P u) (sym (get_or-set_other xs n u x d other)) (before u d (omega (arith, h, other))))
    (cases_eq u n)

pub left_less : {X : Type 0} (P : ℕ → X → Type 0) (xs : List X) (x : X) (n m : ℕ) → ((u : ℕ) (d : X) → n ≤ u → u < m → P u (get_or xs u d))
    → (u : ℕ) (d : X) → n + 1 ≤ u → u < m → P u (get_or (set xs n x) u d)
left_less P xs x n m before u d low high =
    subst (P u) (sym (get_or-set_other xs n u x d (λ e. absurd (omega (arith, e, low))))) (before u d (omega (arith, low)) high)

-- the first history of a target
module _ (job : Job) (net : Net) (limit t : ℕ) (of_job : IsOfJob net job) (shown : Shown job net limit) (there : t < length (targets_of job.decls)) where
  none_updated : updates_in job 0 t ≡ 0
  none_updated = go (nat_lt (home_of job t) job.stages.value)
    where
      go : (b : Bool) → (if b then passed (own_rows job 0) (home_of job t) 0 else 0) ≡ 0
      go true = refl
      go false = refl

  pub first_history : (place : Place) → place ≡ place_in net (target job t) → (sim : Running) → sim ≡ after_cycles job net 0 → (words : List Word)
      → length words ≡ words_at place → ((a : ℕ) (d : Word) → a < words_at place → get_or words a d ≡ word_at sim place a) → (h : History) → h.count ≡ 0
      → ((f : ℕ → ℕ → Word) (size : ℕ) → length words ≡ size → ((a : ℕ) (d : Word) → a < size → get_or words a d ≡ f 0 a) → Remembers f size h)
      → IsHistory job limit 0 t h
  first_history place placed sim simulated words many each h none new =
      let size : length words ≡ 2 ^ (target job t).address = many ∙ ap words_at placed ∙ words_there net (target job t) in
      record {
        count = none ∙ sym none_updated;
        words = new (words_after job limit t) (2 ^ (target job t).address) size (λ a d low.
            each a d (omega (arith, low, size, many))
            ∙ ap (λ (r : Running). word_at r place a) simulated
            ∙ place_shown job (after_cycles job net 0) t place a of_job there placed
            ∙ ap (word (target job t).width) (shown 0 t a (omega arith) (record { target = there; address = low }))
            ∙ ap (λ (i : ℕ). words_after job limit t i a) none_updated);
      }

-- what a cycle does to the history of a target
pub noted : (job : Job) (net : Net) (limit n t : ℕ) (old new : History) → IsHistory job limit n t old → (ue : ℕ) → Updates job n ue → IsOfJob net job → Shown job net limit → n < limit
    → t < length (targets_of job.decls) → (moves : Bool) → moves ≡ bit (bits (bit_of ue) job.stages.value 0) (home_of job t)
    → (written : List (Option ℕ)) → AreNoted job net n written → (place : Place) → place ≡ place_in net (target job t) → (sim : Running) → sim ≡ after_cycles job net (n + 1)
    → (moves ≡ false → new ≡ old) → (moves ≡ true → new.count ≡ old.count + 1)
    → (moves ≡ true → (f : ℕ → ℕ → Word) → Remembers f (words_at place) old
    → ((a : ℕ) → a < words_at place → noted_at written place ≢ Some a → f (old.count + 1) a ≡ f old.count a)
    → ((a : ℕ) → a < words_at place → f (old.count + 1) a ≡ word_at sim place a)
    → Remembers f (words_at place) new)
    → IsHistory job limit (n + 1) t new
noted job net limit n t old new is ue updates of_job shown low there moves moved written are place placed sim simulated still count remembers = go moves refl
  where
    home_there : bit (bits (bit_of ue) job.stages.value 0) (home_of job t) ≡ true → home_of job t < job.stages.value
    home_there on = ⊎_elim
        (λ (l : home_of job t < job.stages.value). l)
        (λ (past : job.stages.value ≤ home_of job t). absurd (both_ways _ (bit_past (bit_of ue) job.stages.value 0 (home_of job t) past) on))
        (cases_lt (home_of job t) job.stages.value)

    go : (b : Bool) → moves ≡ b → IsHistory job limit (n + 1) t new
    go false off = subst (IsHistory job limit (n + 1) t) (sym (still off)) (not_updated job net limit n t old new is ue updates (sym moved ∙ off))
    go true on =
        is_updated job net limit n t old new is ue updates of_job shown low there (sym moved ∙ on) (home_there (sym moved ∙ on)) written are place placed sim simulated
        (count on) (remembers on)
