-- The steps of the loops over stages and reads.
use Rattle.std.proofs.Common.{◌≡◌, ◌∙◌, ℕ, suc, ◌+◌, ◌-◌, ◌<◌, ◌≤◌, List, ◌++◌, Option, Some, None, Bool, true, false, cond, not, ◌&&◌, drop, length, get_or, ap, sym, arith, append_assoc}
use Rattle.std.{proofs.lemmas.List.drop_all, proofs.lemmas.List.drop_more, specs.Prelude.is_some}
use Rattle.kp_sites.specs.{declared.sites.Site.Site, declared.sites.Writer.Writer, Sites.Sited}
use Rattle.kp_stalls.specs.{declared.cause.Cause.Cause, declared.cause.Line.Line, declared.cause.Wait.Wait, Occupants.Seen, Occupants.at}
use Rattle.kp_stalls.specs.Causes.{all_retire, cause_at, first_wait, is_lost, is_open, is_source, line_of, lines_down, nearest, only_open, or_else, wait_of}

-- THE NEAREST SOURCE.
module _ (occupants : List Seen) (w : Writer) (a : ℕ) where
  pub near_first : (n k : ℕ) → nearest occupants w a (n - (k + 1)) (k + 1) ≡ nearest occupants w a (n - suc k) (suc k)
  near_first n k = let e : k + 1 ≡ suc k = omega arith in ap (λ j. nearest occupants w a (n - j) j) e

  pub near_here : (n k : ℕ) → k < n → is_source occupants w a k ≡ true → nearest occupants w a (n - k) k ≡ Some k
  near_here n k b e =
      let one : n - k ≡ suc (n - suc k) = omega (arith, b) in
      ap (λ d. nearest occupants w a d k) one ∙ ap (λ c. cond c (Some k) (nearest occupants w a (n - suc k) (suc k))) e

  pub near_next : (n k : ℕ) → k < n → is_source occupants w a k ≡ false → nearest occupants w a (n - k) k ≡ nearest occupants w a (n - (k + 1)) (k + 1)
  near_next n k b e =
      let one : n - k ≡ suc (n - suc k) = omega (arith, b) in
      ap (λ d. nearest occupants w a d k) one ∙ ap (λ c. cond c (Some k) (nearest occupants w a (n - suc k) (suc k))) e ∙ sym (near_first n k)

  pub near_none : (n k : ℕ) → n ≤ k → nearest occupants w a (n - k) k ≡ None
  near_none n k b = let none : n - k ≡ 0 = omega (arith, b) in ap (λ d. nearest occupants w a d k) none

-- THE FIRST READ THAT WAITS.
module _ (s : Sited) (occupants : List Seen) (k : ℕ) where
  abbrev asked : ℕ → Option ℕ
  asked i = get_or (at occupants k).report.recorded.reads i None

  pub wait_step : (sites : List Site) (i : ℕ) (d : Site) (o : Option Wait) → i < length sites → wait_of s occupants k i (get_or sites i d) (asked i) ≡ o
      → first_wait s occupants k i (drop i sites) ≡ or_else o (first_wait s occupants k (i + 1) (drop (i + 1) sites))
  wait_step sites i d o b e =
      ap (first_wait s occupants k i) (drop_more sites i d b) ∙ ap (λ x. or_else x (first_wait s occupants k (i + 1) (drop (i + 1) sites))) e

  pub wait_here : (sites : List Site) (i : ℕ) (d : Site) (o : Option Wait) → i < length sites → wait_of s occupants k i (get_or sites i d) (asked i) ≡ o → is_some o ≡ true
      → first_wait s occupants k i (drop i sites) ≡ o
  wait_here sites i d None b e t = cc
  wait_here sites i d (Some x) b e t = wait_step sites i d (Some x) b e

  pub wait_next : (sites : List Site) (i : ℕ) (d : Site) (o : Option Wait) → i < length sites → wait_of s occupants k i (get_or sites i d) (asked i) ≡ o → is_some o ≡ false
      → first_wait s occupants k i (drop i sites) ≡ first_wait s occupants k (i + 1) (drop (i + 1) sites)
  wait_next sites i d None b e t = wait_step sites i d None b e
  wait_next sites i d (Some x) b e t = cc

  pub wait_end : (sites : List Site) (i : ℕ) → length sites ≤ i → first_wait s occupants k i (drop i sites) ≡ None
  wait_end sites i b = ap (first_wait s occupants k i) (drop_all i sites b)

  -- THE ONLY OPEN GUESS.
  pub open_step : (sites : List Site) (found : Option ℕ) (i : ℕ) (d : Site) (c : Bool) → i < length sites → is_open s occupants k (get_or sites i d) (asked i) ≡ c
      → only_open s occupants k found i (drop i sites)
      ≡ cond c (cond (is_some found) None (only_open s occupants k (Some i) (i + 1) (drop (i + 1) sites))) (only_open s occupants k found (i + 1) (drop (i + 1) sites))
  open_step sites found i d c b e =
      ap (only_open s occupants k found i) (drop_more sites i d b)
      ∙ ap (λ x. cond x (cond (is_some found) None (only_open s occupants k (Some i) (i + 1) (drop (i + 1) sites))) (only_open s occupants k found (i + 1) (drop (i + 1) sites))) e

  pub open_end : (sites : List Site) (found : Option ℕ) (i : ℕ) → length sites ≤ i → only_open s occupants k found i (drop i sites) ≡ found
  open_end sites found i b = ap (only_open s occupants k found i) (drop_all i sites b)

-- ALL RETIRE.
module _ (occupants : List Seen) where
  pub retire_first : (n k : ℕ) → all_retire occupants (n - (k + 1)) (k + 1) ≡ all_retire occupants (n - suc k) (suc k)
  retire_first n k = let e : k + 1 ≡ suc k = omega arith in ap (λ j. all_retire occupants (n - j) j) e

  retire_step : (n k : ℕ) (c : Bool) → k < n → is_lost (at occupants k).stage ≡ c → all_retire occupants (n - k) k ≡ (not c && all_retire occupants (n - (k + 1)) (k + 1))
  retire_step n k c b e =
      let one : n - k ≡ suc (n - suc k) = omega (arith, b) in
      ap (λ d. all_retire occupants d k) one
      ∙ ap (λ x. not x && all_retire occupants (n - suc k) (suc k)) e
      ∙ ap (λ x. not c && x) (sym (retire_first n k))

  pub retire_here : (n k : ℕ) → k < n → is_lost (at occupants k).stage ≡ true → all_retire occupants (n - k) k ≡ false
  retire_here n k b e = retire_step n k true b e

  pub retire_next : (n k : ℕ) → k < n → is_lost (at occupants k).stage ≡ false → all_retire occupants (n - k) k ≡ all_retire occupants (n - (k + 1)) (k + 1)
  retire_next n k b e = retire_step n k false b e

  pub retire_end : (n k : ℕ) → n ≤ k → all_retire occupants (n - k) k ≡ true
  retire_end n k b = let none : n - k ≡ 0 = omega (arith, b) in ap (λ d. all_retire occupants d k) none

-- THE LINES of a cycle, from the last stage down.
pub lines_step : (s : Sited) (T : ℕ) (occupants : List Seen) (k : ℕ) (before after : List Line) (cause : Option Cause) → 0 < k
    → cause ≡ cause_at s occupants (k - 1) → after ≡ before ++ line_of T occupants (k - 1) cause
    → after ++ lines_down s T occupants (k - 1) ≡ before ++ lines_down s T occupants k
lines_step s T occupants k before after cause b e added =
    let one : k ≡ suc (k - 1) = omega (arith, b) in
    ap (λ l. l ++ lines_down s T occupants (k - 1)) (added ∙ ap (λ c. before ++ line_of T occupants (k - 1) c) e)
    ∙ append_assoc before (line_of T occupants (k - 1) (cause_at s occupants (k - 1))) (lines_down s T occupants (k - 1))
    ∙ ap (λ j. before ++ lines_down s T occupants j) (sym one)
