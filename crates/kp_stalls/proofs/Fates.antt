-- What becomes of an instruction in a cycle or later.
use Rattle.std.proofs.Common.{◌≡◌, ◌∙◌, ℕ, suc, ◌+◌, ◌-◌, ◌<◌, ◌≤◌, List, [], ◌∷◌, Bool, true, false, cond, leb, drop, length, get_or, set, refl, ap, sym, arith, ⊎_elim, le-leb}
use Rattle.std.proofs.lemmas.{Bool.cases_lt, Bool.lt-leb, List.drop_more, List.get_or-set_same, List.get_or-set_other}
use Rattle.kp_base.specs.declared.row.Row as masks
use Rattle.kp_pipeline.{specs.Rows.Row, specs.Rows.bit, proofs.Lists.bit-at}
use Rattle.kp_sched.specs.Rows.{bit_of, row_seen, rows_seen}
use Rattle.kp_stalls.specs.declared.fate.Fate.{Fate, TheVariants.Squashed, TheVariants.Retires, TheVariants.Open}
use Rattle.kp_stalls.specs.Cycles.{fate_in, is_squashed}

module _ (n : ℕ) (r : masks.Row) (rows : List Row) (k : ℕ) (b : k < n) where
  abbrev here : Fate
  here = fate_in n (row_seen n r ∷ rows) k

  fate_is : (squashed ue : Bool) → is_squashed (row_seen n r) k ≡ squashed → bit_of r.ue k ≡ ue
      → here ≡ cond squashed Squashed (cond ue (cond (leb n (suc k)) Retires (fate_in n rows (suc k))) (fate_in n rows k))
  fate_is squashed ue s u =
      let e : bit (row_seen n r).ue k ≡ ue = bit-at (bit_of r.ue) n k b ∙ u in
      λ i. cond (s i) Squashed (cond (e i) (cond (leb n (suc k)) Retires (fate_in n rows (suc k))) (fate_in n rows k))

  pub squashed_now : k < r.back → Squashed ≡ here
  squashed_now h = sym (fate_is true _ (le-leb (suc k) r.back (omega (arith, h))) refl)

  kept : r.back ≤ k → is_squashed (row_seen n r) k ≡ false
  kept h = lt-leb (suc k) r.back (omega (arith, h))

  pub fate_stays : r.back ≤ k → bit_of r.ue k ≡ false → (f : Fate) → f ≡ fate_in n rows k → f ≡ here
  fate_stays h u f e = e ∙ sym (fate_is false false (kept h) u)

  pub fate_moves : r.back ≤ k → bit_of r.ue k ≡ true → k + 1 < n → (f : Fate) → f ≡ fate_in n rows (k + 1) → f ≡ here
  fate_moves h u l f e =
      let one : k + 1 ≡ suc k = omega arith in
      e ∙ ap (fate_in n rows) one
      ∙ sym (fate_is false true (kept h) u ∙ ap (λ c. cond c Retires (fate_in n rows (suc k))) (lt-leb n (suc k) (omega (arith, l))))

  pub fate_leaves : r.back ≤ k → bit_of r.ue k ≡ true → n ≤ k + 1 → Retires ≡ here
  fate_leaves h u l =
      sym (fate_is false true (kept h) u ∙ ap (λ c. cond c Retires (fate_in n rows (suc k))) (le-leb n (suc k) (omega (arith, l))))

-- one stage more is written
pub below_set : (xs : List Fate) (k : ℕ) (v : Fate) (f : ℕ → Fate) → k < length xs → v ≡ f k → ((j : ℕ) → j < k → get_or xs j Open ≡ f j)
    → (j : ℕ) → j < k + 1 → get_or (set xs k v) j Open ≡ f j
below_set xs k v f b e h j l = ⊎_elim
    (λ (lt : j < k). get_or-set_other xs k j v Open (λ q. omega (arith, lt, q)) ∙ h j lt)
    (λ (ge : k ≤ j).
    let is : k ≡ j = omega (arith, ge, l) in
    ap (λ i. get_or (set xs i v) j Open) is ∙ get_or-set_same xs j v Open (omega (arith, is, b)) ∙ e ∙ ap f is)
    (cases_lt j k)

-- one cycle more
pub rows_step : (n : ℕ) (rows : List masks.Row) (T : ℕ) (d : masks.Row) → 0 < T → T ≤ length rows
    → row_seen n (get_or rows (T - 1) d) ∷ rows_seen n (drop T rows) ≡ rows_seen n (drop (T - 1) rows)
rows_step n rows T d b l =
    let one : T - 1 + 1 ≡ T = omega (arith, b) in
    sym (ap (rows_seen n) (drop_more rows (T - 1) d (omega (arith, b, l))) ∙ ap (λ t. row_seen n (get_or rows (T - 1) d) ∷ rows_seen n (drop t rows)) one)

module _ (n : ℕ) (rows : List masks.Row) (T : ℕ) (d : masks.Row) (fates : List (List Fate)) (after : List Fate)
    (some : 0 < T) (within : T ≤ length rows) (count : length fates ≡ length rows)
    (now : (k : ℕ) → k < n → get_or after k Open ≡ fate_in n (row_seen n (get_or rows (T - 1) d) ∷ rows_seen n (drop T rows)) k) where
  pub next_fates : (k : ℕ) → k < n → get_or after k Open ≡ fate_in n (rows_seen n (drop (T - 1) rows)) k
  next_fates k b = now k b ∙ ap (λ rs. fate_in n rs k) (rows_step n rows T d some within)

  pub all_fates : ((U k : ℕ) → T ≤ U → U < length rows → k < n → get_or (get_or fates U []) k Open ≡ fate_in n (rows_seen n (drop U rows)) k)
      → (U k : ℕ) → T - 1 ≤ U → U < length rows → k < n → get_or (get_or (set fates (T - 1) after) U []) k Open ≡ fate_in n (rows_seen n (drop U rows)) k
  all_fates h U k l m b = ⊎_elim
      (λ (lt : T - 1 < U). ap (λ xs. get_or xs k Open) (get_or-set_other fates (T - 1) U after [] (λ q. omega (arith, lt, q))) ∙ h U k (omega (arith, lt, some)) m b)
      (λ (ge : U ≤ T - 1).
      let is : T - 1 ≡ U = omega (arith, ge, l) in
      ap (λ t. get_or (get_or (set fates t after) U []) k Open) is
      ∙ ap (λ xs. get_or xs k Open) (get_or-set_same fates U after [] (omega (arith, m, count)))
      ∙ next_fates k b ∙ ap (λ t. fate_in n (rows_seen n (drop t rows)) k) is)
      (cases_lt (T - 1) U)
