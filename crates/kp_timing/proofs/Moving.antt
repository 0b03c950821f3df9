-- How the instructions move on: the instructions in the stages, and what is reported about them.
use Rattle.std.proofs.Common.{◌≡◌, ◌≢◌, ◌∙◌, ℕ, zero, suc, ◌+◌, ◌<◌, ◌≤◌, List, None, Bool, true, false, cond, not, ◌&&◌, length, get_or, set, refl, ap, sym, subst, arith, ⊎_elim, ◌⊎◌, inl, inr}
use Rattle.std.proofs.lemmas.{Bool.cases_eq, Bool.cases_lt, List.length-set, List.get_or-set_same, List.get_or-set_other}
use Rattle.std.{proofs.lemmas.List.Edits.swap_is, proofs.lemmas.List.Edits.length-swap, specs.Prelude.is_some, specs.List.swap}
use Rattle.kp_sites.specs.Reports.{nothing_recorded}
use Rattle.kp_timing.specs.inner.Deciding.{Held, record_in, moves_by, taken_by, taken_down}

swap_to : {X : Type 0} (xs : List X) (i j : ℕ) (d : X) → i < length xs → j < length xs → get_or (swap xs i j) j d ≡ get_or xs i d
swap_to xs i j d l m =
    let n = length-set xs i (get_or xs j d) in
    ap (λ ys. get_or ys j d) (sym (swap_is xs i j d l m)) ∙ get_or-set_same (set xs i (get_or xs j d)) j (get_or xs i d) d (omega (arith, n))

swap_other : {X : Type 0} (xs : List X) (i j k : ℕ) (d : X) → i < length xs → j < length xs → k ≢ i → k ≢ j → get_or (swap xs i j) k d ≡ get_or xs k d
swap_other xs i j k d l m p q =
    ap (λ ys. get_or ys k d) (sym (swap_is xs i j d l m))
    ∙ get_or-set_other (set xs i (get_or xs j d)) j k (get_or xs i d) d q ∙ get_or-set_other xs i k (get_or xs j d) d p

-- one stage, if the one below moves on or not, and it is blocked or not
abbrev step : Bool → Bool → Held → ℕ → Held
step c e h d =
    cond c (record { hold = set h.hold (d + 1) (get_or h.hold d None); recorded = swap h.recorded d (d + 1) }) (cond e h (record h { hold = set h.hold (d + 1) None }))

hold_count : (c e : Bool) (h : Held) (d : ℕ) → length (step c e h d).hold ≡ length h.hold
hold_count true e h d = length-set h.hold (d + 1) (get_or h.hold d None)
hold_count false true h d = refl
hold_count false false h d = length-set h.hold (d + 1) None

record_count : (c e : Bool) (h : Held) (d : ℕ) → length (step c e h d).recorded ≡ length h.recorded
record_count true e h d = length-swap h.recorded d (d + 1)
record_count false true h d = refl
record_count false false h d = refl

hold_other : (c e : Bool) (h : Held) (d k : ℕ) → k ≢ d + 1 → get_or (step c e h d).hold k None ≡ get_or h.hold k None
hold_other true e h d k p = get_or-set_other h.hold (d + 1) k (get_or h.hold d None) None p
hold_other false true h d k p = refl
hold_other false false h d k p = get_or-set_other h.hold (d + 1) k None None p

hold_here : (c e : Bool) (h : Held) (d : ℕ) → d + 1 < length h.hold
    → get_or (step c e h d).hold (d + 1) None ≡ cond c (get_or h.hold d None) (cond e (get_or h.hold (d + 1) None) None)
hold_here true e h d l = get_or-set_same h.hold (d + 1) (get_or h.hold d None) None l
hold_here false true h d l = refl
hold_here false false h d l = get_or-set_same h.hold (d + 1) None None l

record_other : (c e : Bool) (h : Held) (d k : ℕ) → d + 1 < length h.recorded → k ≢ d → k ≢ d + 1 → record_in (step c e h d) k ≡ record_in h k
record_other true e h d k l p q = swap_other h.recorded d (d + 1) k nothing_recorded (omega arith) l p q
record_other false true h d k l p q = refl
record_other false false h d k l p q = refl

record_moved : (c e : Bool) (h : Held) (d : ℕ) → d + 1 < length h.recorded → c ≡ true → record_in (step c e h d) (d + 1) ≡ record_in h d
record_moved true e h d l p = swap_to h.recorded d (d + 1) nothing_recorded (omega arith) l
record_moved false e h d l p = cc

record_stays : (c e : Bool) (h : Held) (d k : ℕ) → c ≡ false → record_in (step c e h d) k ≡ record_in h k
record_stays true e h d k p = cc
record_stays false true h d k p = refl
record_stays false false h d k p = refl

module _ (b : List Bool) where
  abbrev next : Held → ℕ → Held
  next h d = taken_by b h d

  abbrev c_of : Held → ℕ → Bool
  c_of h d = moves_by h b d

  abbrev e_of : ℕ → Bool
  e_of d = get_or b (d + 1) false

  pub taken_count : (h : Held) (d : ℕ) → (length (taken_by b h d).hold ≡ length h.hold) × (length (taken_by b h d).recorded ≡ length h.recorded)
  taken_count h d = (hold_count (c_of h d) (e_of d) h d, record_count (c_of h d) (e_of d) h d)

  pub taken_counts : (d : ℕ) (h : Held) → (length (taken_down b d h).hold ≡ length h.hold) × (length (taken_down b d h).recorded ≡ length h.recorded)
  taken_counts zero h = (refl, refl)
  taken_counts (suc d) h =
      let r = taken_counts d (next h d) in
      (r.0 ∙ hold_count (c_of h d) (e_of d) h d, r.1 ∙ record_count (c_of h d) (e_of d) h d)

  -- above the stages that are processed nothing changes
  hold_above : (d : ℕ) (h : Held) (j : ℕ) → d < j → get_or (taken_down b d h).hold j None ≡ get_or h.hold j None
  hold_above zero h j l = refl
  hold_above (suc d) h j l = hold_above d (next h d) j (omega arith) ∙ hold_other (c_of h d) (e_of d) h d j (λ q. omega arith)

  record_above : (d : ℕ) (h : Held) (j : ℕ) → d < length h.recorded → d < j → record_in (taken_down b d h) j ≡ record_in h j
  record_above zero h j n l = refl
  record_above (suc d) h j n l =
      let t = record_count (c_of h d) (e_of d) h d in
      record_above d (next h d) j (omega (arith, t)) (omega arith) ∙ record_other (c_of h d) (e_of d) h d j (omega arith) (λ q. omega arith) (λ q. omega arith)

  -- nor does stage 0
  pub hold_first : (d : ℕ) (h : Held) → get_or (taken_down b d h).hold 0 None ≡ get_or h.hold 0 None
  hold_first zero h = refl
  hold_first (suc d) h = hold_first d (next h d) ∙ hold_other (c_of h d) (e_of d) h d 0 (λ q. omega arith)

  moves_below : (h : Held) (d j : ℕ) → j ≤ d → moves_by (next h d) b j ≡ moves_by h b j
  moves_below h d j l = ap (λ o. is_some o && not (get_or b j false)) (hold_other (c_of h d) (e_of d) h d j (λ q. omega arith))

  -- the instruction in a later stage
  pub hold_taken : (d : ℕ) (h : Held) (j : ℕ) → d < length h.hold → j < d
      → get_or (taken_down b d h).hold (j + 1) None ≡ cond (moves_by h b j) (get_or h.hold j None) (cond (get_or b (j + 1) false) (get_or h.hold (j + 1) None) None)
  hold_taken zero h j n l = absurd (omega arith)
  hold_taken (suc d) h j n l = ⊎_elim
      (λ (lt : j < d).
      let t = hold_count (c_of h d) (e_of d) h d in
      hold_taken d (next h d) j (omega (arith, t)) lt
      ∙ ap (λ c. cond c (get_or (next h d).hold j None) (cond (get_or b (j + 1) false) (get_or (next h d).hold (j + 1) None) None)) (moves_below h d j (omega arith))
      ∙ ap (λ o. cond (moves_by h b j) o (cond (get_or b (j + 1) false) (get_or (next h d).hold (j + 1) None) None)) (hold_other (c_of h d) (e_of d) h d j (λ q. omega arith))
      ∙ ap (λ o. cond (moves_by h b j) (get_or h.hold j None) (cond (get_or b (j + 1) false) o None)) (hold_other (c_of h d) (e_of d) h d (j + 1) (λ q. omega arith)))
      (λ (ge : d ≤ j).
      let is : d ≡ j = omega arith in
      hold_above d (next h d) (j + 1) (omega arith)
      ∙ subst (λ i. get_or (next h d).hold (i + 1) None ≡ cond (moves_by h b i) (get_or h.hold i None) (cond (get_or b (i + 1) false) (get_or h.hold (i + 1) None) None)) is
      (hold_here (c_of h d) (e_of d) h d (omega arith)))
      (cases_lt j d)

  -- a report moves with an instruction that moves on
  pub record_up : (d : ℕ) (h : Held) (j : ℕ) → d < length h.recorded → j < d → moves_by h b j ≡ true → record_in (taken_down b d h) (j + 1) ≡ record_in h j
  record_up zero h j n l m = absurd (omega arith)
  record_up (suc d) h j n l m = ⊎_elim
      (λ (lt : j < d).
      let t = record_count (c_of h d) (e_of d) h d in
      record_up d (next h d) j (omega (arith, t)) lt (moves_below h d j (omega arith) ∙ m)
      ∙ record_other (c_of h d) (e_of d) h d j (omega arith) (λ q. omega arith) (λ q. omega arith))
      (λ (ge : d ≤ j).
      let is : d ≡ j = omega arith in
      let t = record_count (c_of h d) (e_of d) h d in
      record_above d (next h d) (j + 1) (omega (arith, t)) (omega arith)
      ∙ subst (λ i. record_in (next h d) (i + 1) ≡ record_in h i) is (record_moved (c_of h d) (e_of d) h d (omega arith) (ap (moves_by h b) is ∙ m)))
      (cases_lt j d)

  -- and stays with one that stays
  pub record_kept : (d : ℕ) (h : Held) (j : ℕ) → d < length h.recorded → j ≤ d → ((i : ℕ) → j ≡ i + 1 → moves_by h b i ≡ false) → ((j ≡ d) ⊎ (moves_by h b j ≡ false))
      → record_in (taken_down b d h) j ≡ record_in h j
  record_kept zero h j n l m o = refl
  record_kept (suc d) h j n l m o = ⊎_elim
      (λ (lt : j < d).
      let t = record_count (c_of h d) (e_of d) h d in
      let stays : moves_by h b j ≡ false = ⊎_elim (λ (q : j ≡ suc d). absurd (omega arith)) (λ (q : moves_by h b j ≡ false). q) o in
      record_kept d (next h d) j (omega (arith, t)) (omega arith) (λ i q. moves_below h d i (omega arith) ∙ m i q) (inr (moves_below h d j (omega arith) ∙ stays))
      ∙ record_other (c_of h d) (e_of d) h d j (omega arith) (λ q. omega arith) (λ q. omega arith))
      (λ (ge : d ≤ j). ⊎_elim
      (λ (gt : d < j).
      let is : j ≡ d + 1 = omega arith in
      let t = record_count (c_of h d) (e_of d) h d in
      record_above d (next h d) j (omega (arith, t)) gt ∙ record_stays (c_of h d) (e_of d) h d j (m d is))
      (λ (le : j ≤ d).
      let is : j ≡ d = omega arith in
      let t = record_count (c_of h d) (e_of d) h d in
      let stays : moves_by h b j ≡ false = ⊎_elim (λ (q : j ≡ suc d). absurd (omega arith)) (λ (q : moves_by h b j ≡ false). q) o in
      record_kept d (next h d) j (omega (arith, t)) (omega arith) (λ i q. moves_below h d i (omega arith) ∙ m i q) (inl is)
      ∙ record_stays (c_of h d) (e_of d) h d j (ap (moves_by h b) (sym is) ∙ stays))
      (cases_lt d j))
      (cases_lt j d)

swap_from : {X : Type 0} (xs : List X) (i j : ℕ) (d : X) → i < length xs → j < length xs → i ≢ j → get_or (swap xs i j) i d ≡ get_or xs j d
swap_from xs i j d l m p =
    ap (λ ys. get_or ys i d) (sym (swap_is xs i j d l m))
    ∙ get_or-set_other (set xs i (get_or xs j d)) j i (get_or xs i d) d p ∙ get_or-set_same xs i (get_or xs j d) d l

-- the report in a stage after one stage has moved was that of some stage before
pub came_from : (b : List Bool) (h : Held) (d j : ℕ) → d + 1 < length h.recorded → j < length h.recorded
    → (i : ℕ) × (i < length h.recorded) × (record_in (taken_by b h d) j ≡ record_in h i)
came_from b h d j l n = by_move (moves_by h b d) (get_or b (d + 1) false)
  where
    by_move : (c e : Bool) → (i : ℕ) × (i < length h.recorded) × (record_in (step c e h d) j ≡ record_in h i)
    by_move true e = ⊎_elim
        (λ (is : j ≡ d).
        (d + 1, l, subst (λ x. record_in (step true e h d) x ≡ record_in h (d + 1)) (sym is) (swap_from h.recorded d (d + 1) nothing_recorded (omega arith) l (λ q. omega arith))))
        (λ p. ⊎_elim
        (λ (is : j ≡ d + 1). (d, omega arith, subst (λ x. record_in (step true e h d) x ≡ record_in h d) (sym is) (record_moved true e h d l refl)))
        (λ q. (j, n, record_other true e h d j l p q))
        (cases_eq j (d + 1)))
        (cases_eq j d)
    by_move false e = (j, n, record_stays false e h d j refl)

-- and so after all of them
pub all_came_from : (b : List Bool) (d : ℕ) (h : Held) (j : ℕ) → d < length h.recorded → j < length h.recorded
    → (i : ℕ) × (i < length h.recorded) × (record_in (taken_down b d h) j ≡ record_in h i)
all_came_from b zero h j l n = (j, n, refl)
all_came_from b (suc d) h j l n =
    let t = record_count (moves_by h b d) (get_or b (d + 1) false) h d in
    let later = all_came_from b d (taken_by b h d) j (omega (arith, t)) (omega (arith, t)) in
    let inside : later.0 < length h.recorded = omega (arith, t, later.1) in
    let first = came_from b h d later.0 (omega arith) inside in
    (first.0, first.1, later.2 ∙ first.2)
