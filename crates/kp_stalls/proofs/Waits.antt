-- What a first wait says, and what it means that there is none.
use Rattle.std.proofs.Common.{◌≡◌, ◌∙◌, ℕ, zero, suc, ◌+◌, ◌<◌, ◌≤◌, List, [], ◌∷◌, Option, Some, None, Bool, true, false, cond, eqb, not, ◌&&◌, ◌||◌, length, get_or, refl, ap, ap₂, sym, arith, ⊎_elim}
use Rattle.std.proofs.lemmas.{Bool.and_parts, Bool.cases_lt, Bool.eqb-true, Bool.not-true, Option.same_Some}
use Rattle.std.specs.Prelude.{is_some}
use Rattle.kp_sites.specs.{declared.sites.Site.Site, declared.sites.Writer.Writer, Sites.Sited, Sites.no_site, Reports.some_unmet_from, Reports.unmet_by}
use Rattle.kp_stalls.specs.{declared.cause.Wait.Wait, Occupants.Seen, Occupants.at}
use Rattle.kp_stalls.specs.Causes.{first_wait, had_by, is_met, is_ready, is_source, nearest, nearest_above, or_else, wait_at, wait_by, wait_of}

-- THE NEAREST SOURCE that is found.
pub record IsNear (occupants : List Seen) (w : Writer) (a k x : ℕ) : Type 0 where
  pub above : k ≤ x
  pub source : is_source occupants w a x ≡ true
  pub nothing : (j : ℕ) → k ≤ j → j < x → is_source occupants w a j ≡ false

near_by : (occupants : List Seen) (w : Writer) (a d k x : ℕ) (b : Bool) → is_source occupants w a k ≡ b → cond b (Some k) (nearest occupants w a d (suc k)) ≡ Some x
    → (nearest occupants w a d (suc k) ≡ Some x → IsNear occupants w a (suc k) x × (x < suc k + d)) → IsNear occupants w a k x × (x < k + suc d)
near_by occupants w a d k x true s e more =
    let same : k ≡ x = same_Some k x e in (
      record {
        above = omega (arith, same);
        source = ap (is_source occupants w a) (sym same) ∙ s;
        nothing = λ j l b. absurd (omega (arith, l, b, same));
      },
      omega (arith, same),
    )
near_by occupants w a d k x false s e more =
    let h = more e in
    let near = h.0 in
    let up = near.above in (
      record {
        above = omega (arith, up);
        source = near.source;
        nothing = λ j l b. first j l b;
      },
      omega (arith, h.1),
    )
  where
    first : (j : ℕ) → k ≤ j → j < x → is_source occupants w a j ≡ false
    first j l b = ⊎_elim
        (λ (lt : k < j). (more e).0.nothing j (omega (arith, lt)) b)
        (λ (le : j ≤ k). let same : k ≡ j = omega (arith, l, le) in ap (is_source occupants w a) (sym same) ∙ s)
        (cases_lt k j)

pub near_is : (occupants : List Seen) (w : Writer) (a d k x : ℕ) → nearest occupants w a d k ≡ Some x → IsNear occupants w a k x × (x < k + d)
near_is occupants w a zero k x e = cc
near_is occupants w a (suc d) k x e = near_by occupants w a d k x (is_source occupants w a k) refl e (near_is occupants w a d (suc k) x)

-- A READ THAT WAITS.
pub record IsWait (s : Sited) (occupants : List Seen) (k i : ℕ) (site : Site) (o : Option ℕ) (w : Wait) : Type 0 where
  pub asked : o ≡ Some w.address
  pub read : w.read ≡ i
  pub own : site.stage ≡ k
  pub plain : site.guessed ≡ false
  pub by : Writer
  pub is_by : get_or s.writers site.target None ≡ Some by
  pub source : nearest_above s occupants by w.address k ≡ Some w.stage
  pub unready : is_ready by (at occupants w.stage) w.stage ≡ false
  pub number : w.writer ≡ (at occupants w.stage).stage.number

module _ (s : Sited) (occupants : List Seen) (k i : ℕ) (site : Site) (w : Wait) where
  at_source : (by : Writer) (a j : ℕ) (b : Bool) → is_ready by (at occupants j) j ≡ b → get_or s.writers site.target None ≡ Some by → nearest_above s occupants by a k ≡ Some j
      → site.stage ≡ k → site.guessed ≡ false
      → cond b None (Some (record { read = i; address = a; writer = (at occupants j).stage.number; stage = j; had = had_by by (at occupants j) j })) ≡ Some w
      → IsWait s occupants k i site (Some a) w
  at_source by a j true r is near own plain e = cc
  at_source by a j false r is near own plain e =
      let same = same_Some (record { read = i; address = a; writer = (at occupants j).stage.number; stage = j; had = had_by by (at occupants j) j }) w e in
      let stage : j ≡ w.stage = ap (λ (x : Wait). x.stage) same in
      let address : a ≡ w.address = ap (λ (x : Wait). x.address) same in
      record {
        asked = ap (λ n. Some n) address;
        read = sym (ap (λ (x : Wait). x.read) same);
        own = own;
        plain = plain;
        by = by;
        is_by = is;
        source = ap (λ x. nearest_above s occupants by x k) (sym address) ∙ near ∙ ap (λ n. Some n) stage;
        unready = ap (λ n. is_ready by (at occupants n) n) (sym stage) ∙ r;
        number = sym (ap (λ (x : Wait). x.writer) same) ∙ ap (λ n. (at occupants n).stage.number) stage;
      }

  at_nearest : (by : Writer) (a : ℕ) (o : Option ℕ) → nearest_above s occupants by a k ≡ o → get_or s.writers site.target None ≡ Some by → site.stage ≡ k → site.guessed ≡ false
      → wait_at occupants by i a o ≡ Some w → IsWait s occupants k i site (Some a) w
  at_nearest by a None near is own plain e = cc
  at_nearest by a (Some j) near is own plain e = at_source by a j (is_ready by (at occupants j) j) refl is near own plain e

  at_writer : (a : ℕ) (o : Option Writer) → get_or s.writers site.target None ≡ o → site.stage ≡ k → site.guessed ≡ false
      → wait_by s occupants k i a o ≡ Some w → IsWait s occupants k i site (Some a) w
  at_writer a None is own plain e = cc
  at_writer a (Some by) is own plain e = at_nearest by a (nearest_above s occupants by a k) refl is own plain e

  at_read : (a : ℕ) (b : Bool) → (eqb site.stage k && not site.guessed) ≡ b → cond b (wait_by s occupants k i a (get_or s.writers site.target None)) None ≡ Some w
      → IsWait s occupants k i site (Some a) w
  at_read a false own e = cc
  at_read a true own e =
      let both = and_parts (eqb site.stage k) (not site.guessed) own in
      at_writer a (get_or s.writers site.target None) refl (eqb-true site.stage k both.0) (not-true site.guessed both.1) e

  pub wait_is : (o : Option ℕ) → wait_of s occupants k i site o ≡ Some w → IsWait s occupants k i site o w
  wait_is None e = cc
  wait_is (Some a) e = at_read a (eqb site.stage k && not site.guessed) refl e

-- THE FIRST ONE.
module _ (s : Sited) (occupants : List Seen) (k : ℕ) where
  abbrev reads : List (Option ℕ)
  reads = (at occupants k).report.recorded.reads

  pub record IsFirst (sites : List Site) (i : ℕ) (w : Wait) : Type 0 where
    pub later : ℕ
    pub there : later < length sites
    pub wait : wait_of s occupants k (i + later) (get_or sites later no_site) (get_or reads (i + later) None) ≡ Some w

  first_by : (site : Site) (sites : List Site) (i : ℕ) (w : Wait) (o : Option Wait) → wait_of s occupants k i site (get_or reads i None) ≡ o
      → or_else o (first_wait s occupants k (i + 1) sites) ≡ Some w → (first_wait s occupants k (i + 1) sites ≡ Some w → IsFirst sites (i + 1) w) → IsFirst (site ∷ sites) i w
  first_by site sites i w (Some x) is e more =
      let z : i + 0 ≡ i = omega arith in
      record { later = 0; there = omega arith; wait = ap (λ n. wait_of s occupants k n site (get_or reads n None)) z ∙ is ∙ e }
  first_by site sites i w None is e more =
      let h = more e in
      let l : ℕ = h.later in
      let z : i + suc l ≡ i + 1 + l = omega arith in
      let b = h.there in
      record { later = suc l; there = omega (arith, b); wait = ap (λ n. wait_of s occupants k n (get_or sites l no_site) (get_or reads n None)) z ∙ h.wait }

  pub first_is : (sites : List Site) (i : ℕ) (w : Wait) → first_wait s occupants k i sites ≡ Some w → IsFirst sites i w
  first_is [] i w e = cc
  first_is (site ∷ sites) i w e = first_by site sites i w (wait_of s occupants k i site (get_or reads i None)) refl e (first_is sites (i + 1) w)

  -- A READ THAT ISN'T MET waits.
  abbrev pub met_of : Option Writer → ℕ → Bool
  met_of None a = true
  met_of (Some w) a = is_met occupants w (nearest_above s occupants w a k)

  abbrev pub unmet : Site → Option ℕ → Bool
  unmet = unmet_by (λ t a. met_of (get_or s.writers t None) a) k

  some_unready : (b : Bool) (x : Wait) → is_some (cond b None (Some x)) ≡ not b
  some_unready true x = refl
  some_unready false x = refl

  some_at : (w : Writer) (i a : ℕ) (o : Option ℕ) → is_some (wait_at occupants w i a o) ≡ not (is_met occupants w o)
  some_at w i a None = refl
  some_at w i a (Some j) = some_unready (is_ready w (at occupants j) j) (record { read = i; address = a; writer = (at occupants j).stage.number; stage = j; had = had_by w (at occupants j) j })

  some_by : (i a : ℕ) (o : Option Writer) → is_some (wait_by s occupants k i a o) ≡ not (met_of o a)
  some_by i a None = refl
  some_by i a (Some w) = some_at w i a (nearest_above s occupants w a k)

  some_chosen : (c : Bool) (x : Option Wait) → is_some (cond c x None) ≡ (c && is_some x)
  some_chosen true x = refl
  some_chosen false x = refl

  some_of : (i : ℕ) (site : Site) (o : Option ℕ) → is_some (wait_of s occupants k i site o) ≡ unmet site o
  some_of i site None = refl
  some_of i site (Some a) =
      some_chosen (eqb site.stage k && not site.guessed) (wait_by s occupants k i a (get_or s.writers site.target None))
      ∙ ap (λ b. (eqb site.stage k && not site.guessed) && b) (some_by i a (get_or s.writers site.target None))

  some_first : (x y : Option Wait) → is_some (or_else x y) ≡ (is_some x || is_some y)
  some_first None y = refl
  some_first (Some x) y = refl

  -- a first wait is found exactly where a read isn't met
  pub some_waits : (i : ℕ) (sites : List Site) → is_some (first_wait s occupants k i sites) ≡ some_unmet_from unmet reads i sites
  some_waits i [] = refl
  some_waits i (site ∷ sites) =
      some_first (wait_of s occupants k i site (get_or reads i None)) (first_wait s occupants k (i + 1) sites)
      ∙ ap₂ (λ (x y : Bool). x || y) (some_of i site (get_or reads i None)) (some_waits (i + 1) sites)
