-- The guesses that lines name.
use Rattle.std.proofs.Common.{◌≡◌, ◌∙◌, ℕ, suc, ◌+◌, ◌-◌, ◌<◌, List, [], ◌∷◌, length, get_or, Option, Some, None, Bool, true, false, cond, refl, ap, sym, arith, ◌⊎◌, inl, inr}
use Rattle.std.{proofs.lemmas.List.get_or-map, proofs.lemmas.Option.same_Some, specs.Prelude.is_some}
use Rattle.kp_ast.specs.declared.tree.Job.{Job}
use Rattle.kp_machine.{specs.Machine.sequential, proofs.Cases.by_test}
use Rattle.kp_stalls.specs.declared.cause.Cause.{Cause, TheVariants.Unsure, TheVariants.Ahead, TheVariants.Held, TheVariants.Later, TheVariants.Squashed}
use Rattle.kp_stalls.specs.declared.{cause.Guess.Guess, cause.Wait.Wait, cause.Wrong.Wrong, occupants.Stage.Stage}
use Rattle.kp_stalls.specs.Occupants.{Seen, at, no_occupant, no_stage, no_value, occupants_of, report, value_before}
use Rattle.kp_stalls.specs.Causes.{all_retire, cause_at, cause_of_wait, first_wait, guess_of, is_open, is_squashed_by, is_reported, is_waiting, only_open, waiting_cause, wrong_of}
use Rattle.kp_sites.specs.{declared.sites.Site.Site, Sites.Sited, Sites.no_site, Sites.sited}

-- A WAIT is no squash.
no_squash : (a b c d : Bool) (o : Option Wait) (w : Wrong) → cond a Later (cond b Held (cond c Ahead (cond d (cause_of_wait o) Unsure))) ≡ Squashed w → ⊥
no_squash false false false true None w e = cc
no_squash _ _ _ _ _ w e = cc

abbrev wrong_in : Wrong → Cause → Wrong
wrong_in v (Squashed w) = w
wrong_in v _ = v

pub same_wrongs : (v w : Wrong) → Squashed v ≡ Squashed w → v ≡ w
same_wrongs v w e = ap (wrong_in v) e

from_squash : (full squashed up moves : Bool) (c : Cause) (v w : Wrong) → (c ≡ Squashed w → ⊥)
    → cond full (cond squashed (cond up None (Some (Squashed v))) (cond moves None (Some c))) None ≡ Some (Squashed w) → v ≡ w
from_squash true true false moves c v w never e = same_wrongs v w (same_Some _ _ e)
from_squash true false up false c v w never e = absurd (never (same_Some _ _ e))
from_squash _ _ _ _ c v w never e = cc

-- THE ONLY OPEN GUESS is one of the reads.
module _ (s : Sited) (occupants : List Seen) (k : ℕ) where
  only_in : (found : Option ℕ) (i : ℕ) (sites : List Site) (r : ℕ) → only_open s occupants k found i sites ≡ Some r → (found ≡ Some r) ⊎ (r < i + length sites)
  only_in found i [] r e = inl e
  only_in found i (site ∷ sites) r e = by_test (is_open s occupants k site (get_or (at occupants k).report.recorded.reads i None))
      (λ h.
      let open_now = sym (ap (λ c. cond c (cond (is_some found) None (only_open s occupants k (Some i) (i + 1) sites)) (only_open s occupants k found (i + 1) sites)) h) ∙ e in
      second found i sites r (only_in (Some i) (i + 1) sites r) open_now)
      (λ h.
      let later = sym (ap (λ c. cond c (cond (is_some found) None (only_open s occupants k (Some i) (i + 1) sites)) (only_open s occupants k found (i + 1) sites)) h) ∙ e in
      shift found i sites r (only_in found (i + 1) sites r later))
    where
      shift : (found : Option ℕ) (i : ℕ) (sites : List Site) (r : ℕ) → (found ≡ Some r) ⊎ (r < i + 1 + length sites) → (found ≡ Some r) ⊎ (r < i + suc (length sites))
      shift found i sites r (inl f) = inl f
      shift found i sites r (inr b) = inr (omega (arith, b))

      second : (found : Option ℕ) (i : ℕ) (sites : List Site) (r : ℕ) → (only_open s occupants k (Some i) (i + 1) sites ≡ Some r → (Some i ≡ Some r) ⊎ (r < i + 1 + length sites))
          → cond (is_some found) None (only_open s occupants k (Some i) (i + 1) sites) ≡ Some r → (found ≡ Some r) ⊎ (r < i + suc (length sites))
      second (Some f) i sites r more e = cc
      second None i sites r more e = here (more e)
        where
          here : (Some i ≡ Some r) ⊎ (r < i + 1 + length sites) → (None ≡ Some r) ⊎ (r < i + suc (length sites))
          here (inl f) = let same : i ≡ r = same_Some i r f in inr (omega (arith, same))
          here (inr b) = inr (omega (arith, b))

  only_there : (r : ℕ) → only_open s occupants k None 0 s.reads ≡ Some r → r < length s.reads
  only_there r e = go (only_in None 0 s.reads r e)
    where
      go : (None ≡ Some r) ⊎ (r < 0 + length s.reads) → r < length s.reads
      go (inl f) = cc
      go (inr b) = omega (arith, b)

  pub record IsNamed (g : Guess) : Type 0 where
    pub there : g.read < length s.reads
    pub value : g.value ≡ get_or (at occupants k).report.values g.read no_value

  named_by : (o : Option ℕ) (g : Guess) → only_open s occupants k None 0 s.reads ≡ o → guess_of s occupants k o ≡ Some g → IsNamed g
  named_by None g e is = cc
  named_by (Some i) g e is =
      let same = same_Some _ g is in
      let read : i ≡ g.read = ap (λ (x : Guess). x.read) same in
      let below = only_there i e in
      record {
        there = omega (arith, read, below);
        value = sym (ap (λ (x : Guess). x.value) same) ∙ ap (λ (j : ℕ). get_or (at occupants k).report.values j no_value) read;
      }

  named_if : (c : Bool) (g : Guess) → cond c (guess_of s occupants k (only_open s occupants k None 0 s.reads)) None ≡ Some g → IsNamed g
  named_if true g e = named_by (only_open s occupants k None 0 s.reads) g refl e
  named_if false g e = cc

  pub named : (w : Wrong) (g : Guess) → cause_at s occupants k ≡ Some (Squashed w) → w.guess ≡ Some g → IsNamed g
  named w g e is =
      let same = from_squash (at occupants k).stage.full (at occupants k).stage.squashed (at occupants (k + 1)).stage.squashed (at occupants k).stage.moves (waiting_cause s occupants k) (wrong_of s occupants k) w
      (no_squash (is_squashed_by (at occupants k).stage.fate) (at occupants k).stage.held (is_waiting (at occupants (k + 1)).stage) (is_reported s (at occupants k).stage) (first_wait s occupants k 0 s.reads) w) e in
      named_if (all_retire occupants (s.stages - suc k) (suc k)) g (ap (λ (x : Wrong). x.guess) same ∙ is)

-- Its value is that of its register before the instruction.
pub value_named : (job : Job) (given : ℕ → ℕ → ℕ) (stages : List Stage) (k number : ℕ) (g : Guess) → k < length stages → (get_or stages k no_stage).number ≡ number
    → IsNamed (sited job) (occupants_of (report job given) stages) k g → g.value ≡ value_before job (sequential job given number) (get_or (sited job).reads g.read no_site)
value_named job given stages k number g b e is =
    let here : at (occupants_of (report job given) stages) k ≡ record { stage = get_or stages k no_stage; report = report job given (get_or stages k no_stage).number } =
    get_or-map (λ (s : Stage). record { stage = s; report = report job given s.number }) stages k no_stage no_occupant b in
    is.value
    ∙ ap (λ (x : Seen). get_or x.report.values g.read no_value) here
    ∙ ap (λ (n : ℕ). get_or (report job given n).values g.read no_value) e
    ∙ get_or-map (value_before job (sequential job given number)) (sited job).reads g.read no_site no_value is.there
