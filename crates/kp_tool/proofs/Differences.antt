-- A run of a netlist, compared with the sequential machine, has exactly one outcome.
use Rattle.std.proofs.Common.{◌≡◌, ◌≢◌, ◌∙◌, ℕ, zero, suc, ◌<◌, ◌≤◌, ◌^◌, ◌⊎◌, List, length, inl, inr, refl, sym, subst, arith}
use Rattle.std.proofs.lemmas.Bool.{cases_lt, cases_eq}
use Rattle.kp_machine.specs.{Slots.targets_of, Words.HasWord, Words.target}
use Rattle.kp_ast.specs.declared.tree.Job.{Job}
use Rattle.kp_net.specs.Netlist.{Net, run}
use Rattle.kp_sched.proofs.Counting.{seen_length}
use Rattle.kp_implements.specs.Traces.{trace_of}
use Rattle.kp_run.{specs.Cycles.inputs_to, specs.Cycles.own_trace, proofs.Prefixes.rows_many}
use Rattle.kp_watch.specs.Watching.{own_due, Agrees, IsFirstDifference}
use Rattle.kp_tool.specs.Watched.{own_text, differing_text, DueOfRun, agrees, differs}

-- the first of n numbers that is bad, where each is good or bad
first_bad : (Good Bad : ℕ → Type 0) → ((i : ℕ) → Good i ⊎ Bad i) → (n : ℕ)
    → ((i : ℕ) → i < n → Good i) ⊎ ((i : ℕ) × (i < n) × Bad i × ((j : ℕ) → j < i → Good j))
first_bad Good Bad test zero = inl (λ i h. absurd (omega (arith, h)))
first_bad Good Bad test (suc n) = elim (first_bad Good Bad test n) [
  | inr found ↦ inr (found.0, (let h = found.1 in omega (arith, h)), found.2, found.3)
  | inl good ↦ elim (test n) [
    | inr bad ↦ inr (n, omega arith, bad, good)
    | inl last ↦ inl (λ i h. elim (cases_lt i n) [
      | inl below ↦ good i below
      | inr above ↦ (let same : n ≡ i = omega (arith, h, above) in subst Good same last)
    ])
  ]
]

-- two numbers of which neither is the lower are equal
only : (x y : ℕ) → (x < y → ⊥) → (y < x → ⊥) → x ≡ y
only x y f g = omega (arith, f, g)

module _ (job : Job) (net : Net) (n : ℕ) where
  own_many : length (own_trace job net n).rows ≡ n
  unfolding trace_of
  own_many = seen_length job.stages.value (run net (inputs_to job n)).rows ∙ rows_many job net n

  -- where the run agrees, there is no difference
  pub agrees_everywhere : (T t a : ℕ) → Agrees job net n → IsFirstDifference job net n T t a → ⊥
  agrees_everywhere T t a all d =
      let within = d.within in
      d.differs (all T t a (let e : T ≤ length (own_trace job net n).rows = omega (arith, own_many, within) in e) d.there)

  -- two first differences are in the same cycle, at one target, and at one address
  pub one_difference : (T t a U s b : ℕ) → IsFirstDifference job net n T t a → IsFirstDifference job net n U s b → differing_text n job net T t a ≡ differing_text n job net U s b
  one_difference T t a U s b d e =
      let when : U ≡ T = only U T (λ h. e.differs (d.cycles_before U s b h e.there)) (λ h. d.differs (e.cycles_before T t a h d.there)) in
      let then = subst (λ (V : ℕ). IsFirstDifference job net n V s b) when e in
      let which : s ≡ t = only s t (λ h. then.differs (d.words_before s b then.there (inl h))) (λ h. d.differs (then.words_before t a d.there (inl h))) in
      let there = subst (λ (u : ℕ). IsFirstDifference job net n T u b) which then in
      let at : b ≡ a = only b a (λ h. there.differs (d.words_before t b there.there (inr (refl, h)))) (λ h. d.differs (there.words_before t a d.there (inr (refl, h)))) in
      sym (λ i. differing_text n job net (when i) (which i) (at i))

  pub said_of_run : (s t : ℕ) (x y : List ℕ) → DueOfRun n job net s x → DueOfRun n job net t y → (s ≡ t) × (x ≡ y)
  said_of_run s t x y (agrees h (a, b)) (agrees i (c, d)) = (a ∙ sym c, b ∙ sym d)
  said_of_run s t x y (agrees h a) (differs T u v d b) = absurd (agrees_everywhere T u v h d)
  said_of_run s t x y (differs T u v d a) (agrees h b) = absurd (agrees_everywhere T u v h d)
  said_of_run s t x y (differs T u v d (a, b)) (differs U w z e (c, f)) = (a ∙ sym c, b ∙ one_difference T u v U w z d e ∙ sym f)

  -- .. and it has an outcome
  abbrev Same : ℕ → ℕ → ℕ → Type 0
  Same T t a = (own_trace job net n).visible T t a ≡ own_due job net n T t a

  abbrev Differs : ℕ → ℕ → ℕ → Type 0
  Differs T t a = (own_trace job net n).visible T t a ≢ own_due job net n T t a

  -- for a target in one state
  abbrev SameTarget : ℕ → ℕ → Type 0
  SameTarget T t = (a : ℕ) → a < 2 ^ (target job t).address → Same T t a

  abbrev DiffersTarget : ℕ → ℕ → Type 0
  DiffersTarget T t = (a : ℕ) × (a < 2 ^ (target job t).address) × Differs T t a × ((b : ℕ) → b < a → Same T t b)

  -- for a state
  abbrev SameState : ℕ → Type 0
  SameState T = (t : ℕ) → t < length (targets_of job.decls) → SameTarget T t

  abbrev DiffersState : ℕ → Type 0
  DiffersState T = (t : ℕ) × (t < length (targets_of job.decls)) × DiffersTarget T t × ((s : ℕ) → s < t → SameTarget T s)

  test_target : (T t : ℕ) → SameTarget T t ⊎ DiffersTarget T t
  test_target T t = first_bad (Same T t) (Differs T t) (λ a. cases_eq _ _) (2 ^ (target job t).address)

  test_state : (T : ℕ) → SameState T ⊎ DiffersState T
  test_state T = first_bad (SameTarget T) (DiffersTarget T) (test_target T) (length (targets_of job.decls))

  is_first : (T t a : ℕ) → T < suc n → t < length (targets_of job.decls) → a < 2 ^ (target job t).address → Differs T t a
      → ((b : ℕ) → b < a → Same T t b) → ((s : ℕ) → s < t → SameTarget T s) → ((U : ℕ) → U < T → SameState U) → IsFirstDifference job net n T t a
  is_first T t a within there at differ words targets cycles = record {
    within = omega (arith, within);
    there = record { target = there; address = at };
    differs = differ;
    cycles_before = λ U s b h w. cycles U h s w.target b w.address;
    words_before = λ s b w h. before s b w h;
  }
    where
      before : (s b : ℕ) → HasWord job s b → (s < t) ⊎ ((s ≡ t) × (b < a)) → Same T s b
      before s b w (inl lower) = targets s lower b w.address
      before s b w (inr (same, lower)) = subst (λ (u : ℕ). Same T u b) (sym same) (words b lower)

  pub run_said : (s : ℕ) × (x : List ℕ) × DueOfRun n job net s x
  run_said = elim (first_bad SameState DiffersState test_state (suc n)) [
    | inl all ↦ (0, own_text n job net, agrees (λ T t a h w. all T (let e : T < suc n = omega (arith, own_many, h) in e) t w.target a w.address) (refl, refl))
    | inr (T, within, (t, there, (a, at, differ, words), targets), cycles) ↦
        (7, differing_text n job net T t a, differs T t a (is_first T t a within there at differ words targets cycles) (refl, refl))
  ]
