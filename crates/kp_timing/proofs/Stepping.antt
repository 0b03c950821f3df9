-- The steps of the loops over stages.
use Rattle.std.proofs.Common.{◌≡◌, ◌∙◌, ℕ, suc, ◌+◌, ◌-◌, ◌<◌, ◌≤◌, List, Option, None, Bool, true, false, cond, leb, not, ◌&&◌, ◌||◌, drop, length, get_or, set, ap, sym, arith}
use Rattle.std.{proofs.lemmas.List.drop_more, specs.List.swap}
use Rattle.kp_sites.specs.{declared.sites.Site.Site, declared.sites.Writer.Writer, Sites.Sited, Reports.is_ready, Reports.may_write}
use Rattle.kp_timing.specs.inner.Deciding.{Held, record_in, is_full, met_from, is_unmet, some_unmet_from, found_at, found_down, moves_by, taken_by, taken_down}
use Rattle.kp_timing.specs.declared.movement.Found.{Found}

-- the stages above a read
pub met_here : (h : Held) (b : List Bool) (w : Writer) (a n k : ℕ) → k < n → (is_full h k && (leb k w.write && may_write w (record_in h k) k a)) ≡ true
    → met_from h b w a (n - k) k ≡ is_ready w (record_in h k) k (not (get_or b k false))
met_here h b w a n k l e =
    let one : n - k ≡ suc (n - (k + 1)) = omega arith in
    let next : suc k ≡ k + 1 = omega arith in
    ap (λ d. met_from h b w a d k) one
    ∙ ap (λ c. cond c (is_ready w (record_in h k) k (not (get_or b k false))) (met_from h b w a (n - (k + 1)) (suc k))) e

pub met_above : (h : Held) (b : List Bool) (w : Writer) (a n k : ℕ) → k < n → (is_full h k && (leb k w.write && may_write w (record_in h k) k a)) ≡ false
    → met_from h b w a (n - k) k ≡ met_from h b w a (n - (k + 1)) (k + 1)
met_above h b w a n k l e =
    let one : n - k ≡ suc (n - (k + 1)) = omega arith in
    let next : suc k ≡ k + 1 = omega arith in
    ap (λ d. met_from h b w a d k) one
    ∙ ap (λ c. cond c (is_ready w (record_in h k) k (not (get_or b k false))) (met_from h b w a (n - (k + 1)) (suc k))) e
    ∙ ap (met_from h b w a (n - (k + 1))) next

pub met_none : (h : Held) (b : List Bool) (w : Writer) (a n k : ℕ) → n ≤ k → met_from h b w a (n - k) k ≡ true
met_none h b w a n k l = let none : n - k ≡ 0 = omega arith in ap (λ d. met_from h b w a d k) none

-- the reads of a stage
pub reads_next : (s : Sited) (h : Held) (b : List Bool) (k i : ℕ) (sites : List Site) (d : Site) (asked : Option ℕ) → i < length sites → asked ≡ get_or (record_in h k).reads i None
    → is_unmet s h b k (get_or sites i d) asked ≡ false → some_unmet_from s h b k (i + 1) (drop (i + 1) sites) ≡ some_unmet_from s h b k i (drop i sites)
reads_next s h b k i sites d asked l e u =
    sym (ap (some_unmet_from s h b k i) (drop_more sites i d l)
    ∙ ap (λ o. is_unmet s h b k (get_or sites i d) o || some_unmet_from s h b k (i + 1) (drop (i + 1) sites)) (sym e)
    ∙ ap (λ c. c || some_unmet_from s h b k (i + 1) (drop (i + 1) sites)) u)

-- the stages from the last one down
pub found_next : (s : Sited) (h : Held) (ext k : ℕ) (f : Found) → 0 < k → found_down s h ext (k - 1) (found_at s h ext (k - 1) f) ≡ found_down s h ext k f
found_next s h ext k f l = let one : suc (k - 1) ≡ k = omega arith in ap (λ d. found_down s h ext d f) one

module _ (b : List Bool) (h : Held) (k : ℕ) (some : 1 ≤ k) where
  pub taken_next : taken_down b (k - 1) (taken_by b h (k - 1)) ≡ taken_down b k h
  taken_next = let one : suc (k - 1) ≡ k = omega arith in ap (λ d. taken_down b d h) one

  same : k - 1 + 1 ≡ k
  same = omega arith
