-- The words of the targets as a state.
use Rattle.std.proofs.Common.{◌≡◌, ◌∙◌, ℕ, zero, suc, ◌+◌, ◌^◌, ◌<◌, ◌≤◌, List, [], ◌∷◌, length, get_or, map, refl, ap, sym, subst, arith}
use Rattle.std.proofs.lemmas.List.{get_or-map}
use Rattle.std.specs.Prelude.{slice_index}
use Rattle.kp_ast.specs.declared.tree.Job.{Job}
use Rattle.kp_bits.specs.Word.{Word, word}
use Rattle.kp_machine.specs.{Slots.targets_of, Words.HasWord, Words.target, Words.state_in}
use Rattle.kp_until.specs.Untils.{AreSame}
use Rattle.kp_until_run.specs.Ending.{retired_in, states_in}
use Rattle.kp_until_run.specs.inner.{Contents.numbers_of, Contents.FitJob, Histories.Remembers, Pasts.words_after, Pasts.AreNear, Pasts.IsHistory}
use Rattle.kp_until_run.specs.declared.{contents.Words.Words, history.History.History}
use Rattle.kp_until_run.proofs.Pasts.{word_then}

index_is : (xs : List ℕ) (a : ℕ) → slice_index xs a ≡ get_or xs a 0
index_is [] a = refl
index_is (x ∷ xs) zero = refl
index_is (x ∷ xs) (suc a) = index_is xs a

-- a word of a target
number_is : (targets : List Words) (t a : ℕ) (d : Words) (e : Word) → t < length targets → a < length (get_or targets t d).words.items
    → state_in (numbers_of targets) t a ≡ (get_or (get_or targets t d).words.items a e).value
number_is targets t a d e there low =
    let items = (get_or targets t d).words.items in
    index_is (get_or (numbers_of targets) t []) a
    ∙ ap (λ (l : List ℕ). get_or l a 0) (get_or-map (λ (w : Words). map (λ (b : Word). b.value) w.words.items) targets t d [] there)
    ∙ get_or-map (λ (b : Word). b.value) items a e 0 low

some_of : {X : Type 0} (xs : List X) (n : ℕ) → n < length xs → X
some_of [] n h = absurd (omega (arith, h))
some_of (x ∷ xs) n h = x

module _ (job : Job) (targets : List Words) (fit : FitJob job targets) (t a : ℕ) (there : HasWord job t a) (d : Words) (e : Word) where
  pub target_there : t < length targets
  target_there = let h = there.target in let c = fit.count in omega (arith, h, c)

  pub word_there : a < length (get_or targets t d).words.items
  word_there = let h = there.address in let c = (fit.each t d there.target).count in omega (arith, h, c)

  pub value_is : get_or (get_or targets t d).words.items a e ≡ word (target job t).width (state_in (numbers_of targets) t a)
  value_is =
      let widths = (fit.each t d there.target).widths a e there.address in
      let values = sym (number_is targets t a d e target_there word_there) in
      λ i. word (widths i) (values i)

-- ---- the words after some instructions

module _ (job : Job) (limit count : ℕ) (targets : List Words) (many : length targets ≡ length (targets_of job.decls))
    (sizes : (u : ℕ) (d : Words) → u < length (targets_of job.decls) → length (get_or targets u d).words.items ≡ 2 ^ (target job u).address)
    (each : (u a : ℕ) (d : Words) (e : Word) → u < length (targets_of job.decls) → a < 2 ^ (target job u).address → get_or (get_or targets u d).words.items a e ≡ words_after job limit u count a) where
  pub fits : FitJob job targets
  fits = record {
    count = many;
    each = λ t d h. record { count = sizes t d h; widths = λ a e low. ap (λ (w : Word). w.width) (each t a d e h low) };
  }

  pub same_state : AreSame job (state_in (numbers_of targets)) (states_in job limit count)
  same_state t a there =
      let e = word 0 0 in
      let low : t < length targets = let h = there.target in omega (arith, h, many) in
      let d = some_of targets t low in
      number_is targets t a d e low (let h = there.address in let s = sizes t d there.target in omega (arith, h, s))
      ∙ ap (λ (w : Word). w.value) (each t a d e there.target there.address)

-- those of one target
pub words_then : (job : Job) (limit n t : ℕ) (h : History) → AreNear job limit n → IsHistory job limit n t h → (count size : ℕ) → count ≤ retired_in job n → retired_in job n ≤ count + 4
    → size ≡ 2 ^ (target job t).address → (words : List Word)
    → ((f : ℕ → ℕ → Word) (a : ℕ) (d : Word) → Remembers f size h → h.count ≤ count + 16 → count ≤ h.count → a < size → get_or words a d ≡ f count a)
    → ((f : ℕ → ℕ → Word) (a : ℕ) (d : Word) → Remembers f size h → h.count ≤ count → a < size → get_or words a d ≡ f h.count a)
    → (a : ℕ) (e : Word) → a < 2 ^ (target job t).address → get_or words a e ≡ words_after job limit t count a
words_then job limit n t h near is count size few many sized words before all a e low =
    word_then job limit n t h near is (retired_in job n) count refl few many a (get_or words a e)
    (λ f s rem close less. before f a e (subst (λ (k : ℕ). Remembers f k h) (same s f rem) rem) close less (omega (arith, low, sized)))
    (λ f s rem past. all f a e (subst (λ (k : ℕ). Remembers f k h) (same s f rem) rem) past (omega (arith, low, sized)))
  where
    same : (s : ℕ) (f : ℕ → ℕ → Word) → Remembers f s h → s ≡ size
    same s f rem = let a2 = rem.size_is in let b = is.words.size_is in omega (arith, a2, b, sized)
