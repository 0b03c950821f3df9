use Rattle.std.proofs.Common.{◌≡◌, ◌∙◌, ℕ, zero, suc, ◌+◌, ◌<◌, ◌≤◌, Bool, cond, List, [], ◌∷◌, length, get_or, drop, Option, Some, None, refl, sym, ap, ap₂, arith}
use Rattle.std.proofs.lemmas.List.{drop_more}
use Rattle.kp_base.specs.declared.row.Row as masks
use Rattle.kp_pipeline.specs.Rows.{Row, bit}
use Rattle.kp_diagram.specs.Diagram.{Account, Loss, Filling, DataHazard, WrongGuess, Outside, account_from, and_cycle, is_squashed, loss_of_wait, losses_after, lost_to, spent_from}
use Rattle.kp_diagram.specs.Claims.{cycles_of}
use Rattle.kp_diagram.proofs.Adding.{one-more as counted-more}
use Rattle.kp_sched.specs.Rows.{row_seen, rows_seen}

-- AN ACCOUNT that is kept from the front. The entries of cycles are added to one.
abbrev pub onto : List (Option Loss) → Account → Account
onto [] a = a
onto (o ∷ os) a = onto os (and_cycle o a)

abbrev pub nothing : Account
nothing = record { retired = 0; filling = 0; hazards = 0; guesses = 0; outside = 0 }

commute : (o p : Option Loss) (a : Account) → and_cycle o (and_cycle p a) ≡ and_cycle p (and_cycle o a)
commute None None a = refl
commute None (Some Filling) a = refl
commute (Some Filling) None a = refl
commute (Some Filling) (Some Filling) a = refl
commute (Some DataHazard) None a = refl
commute (Some DataHazard) (Some Filling) a = refl
commute (Some WrongGuess) None a = refl
commute (Some WrongGuess) (Some Filling) a = refl
commute (Some Outside) None a = refl
commute (Some Outside) (Some Filling) a = refl
commute _ _ a = refl

onto-and : (os : List (Option Loss)) (o : Option Loss) (a : Account) → onto os (and_cycle o a) ≡ and_cycle o (onto os a)
onto-and [] o a = refl
onto-and (p ∷ os) o a = ap (onto os) (commute p o a) ∙ onto-and os o (and_cycle p a)

-- from nothing on they make the account
pub onto-account : (last : ℕ) (ext : ℕ → ℕ → Bool) (T : ℕ) (loss : ℕ → Loss) (rows : List Row)
    → onto (spent_from last ext T loss rows) nothing ≡ account_from last ext T loss rows
onto-account last ext T loss [] = refl
onto-account last ext T loss (r ∷ rows) =
    onto-and (spent_from last ext (suc T) (losses_after (ext T) r loss) rows) (lost_to last (ext T) r loss) nothing
    ∙ ap (and_cycle (lost_to last (ext T) r loss)) (onto-account last ext (suc T) (losses_after (ext T) r loss) rows)

-- the losses count up to the last stage
pub after-alike : (e : ℕ → Bool) (r : Row) (f g : ℕ → Loss) (last : ℕ) → ((j : ℕ) → j ≤ last → f j ≡ g j) → (j : ℕ) → j ≤ last
    → losses_after e r f j ≡ losses_after e r g j
after-alike e r f g last h zero b = refl
after-alike e r f g last h (suc j) b =
    ap (λ (x : Loss). cond (is_squashed r j) WrongGuess (cond (bit r.full j) (loss_of_wait e j) x)) (h j (omega arith))

pub spent-alike : (last : ℕ) (ext : ℕ → ℕ → Bool) (T : ℕ) (f g : ℕ → Loss) (rows : List Row)
    → ((j : ℕ) → j ≤ last → f j ≡ g j) → spent_from last ext T f rows ≡ spent_from last ext T g rows
spent-alike last ext T f g [] h = refl
spent-alike last ext T f g (r ∷ rows) h =
    ap₂ (λ (o : Option Loss) (os : List (Option Loss)). o ∷ os)
    (ap (λ (x : Loss). cond (bit r.ue last) None (Some (cond (bit r.full last) (loss_of_wait (ext T) last) x))) (h last (omega arith)))
    (spent-alike last ext (suc T) (losses_after (ext T) r f) (losses_after (ext T) r g) rows (after-alike (ext T) r f g last h))

-- at the start
pub account-first : (n last : ℕ) (ext : ℕ → ℕ → Bool) (rows : List masks.Row) (f : ℕ → Loss) → ((j : ℕ) → j ≤ last → f j ≡ Filling)
    → onto (spent_from last ext 0 f (rows_seen n rows)) nothing ≡ account_from last ext 0 (λ k. Filling) (rows_seen n rows)
account-first n last ext rows f h =
    ap (λ (os : List (Option Loss)). onto os nothing) (spent-alike last ext 0 f (λ k. Filling) (rows_seen n rows) h)
    ∙ onto-account last ext 0 (λ k. Filling) (rows_seen n rows)

-- one cycle more
module _ (last : ℕ) (ext : ℕ → ℕ → Bool) (rows : List masks.Row) (T : ℕ) (r d : masks.Row) where
  one-more : (losses after : ℕ → Loss) (o : Option Loss) (old new : Account) → r ≡ get_or rows T d → T < length rows
      → o ≡ lost_to last (ext T) (row_seen (last + 1) r) losses
      → ((k : ℕ) → k ≤ last → after k ≡ losses_after (ext T) (row_seen (last + 1) r) losses k)
      → new ≡ and_cycle o old
      → onto (spent_from last ext (T + 1) after (rows_seen (last + 1) (drop (T + 1) rows))) new
      ≡ onto (spent_from last ext T losses (rows_seen (last + 1) (drop T rows))) old
  one-more losses after o old new is b lost next added =
      let next_cycle : T + 1 ≡ suc T = omega arith in
      let left = rows_seen (last + 1) (drop (T + 1) rows) in
      ap₂ (λ (U : ℕ) (a : Account). onto (spent_from last ext U after left) a) next_cycle (added ∙ ap (λ (p : Option Loss). and_cycle p old) lost)
      ∙ ap (λ (os : List (Option Loss)). onto os (and_cycle (lost_to last (ext T) (row_seen (last + 1) r) losses) old))
      (spent-alike last ext (suc T) after (losses_after (ext T) (row_seen (last + 1) r) losses) left next)
      ∙ sym (ap (λ (rs : List masks.Row). onto (spent_from last ext T losses (rows_seen (last + 1) rs)) old)
      (drop_more rows T d b ∙ ap (λ (x : masks.Row). x ∷ drop (T + 1) rows) (sym is)))

  pub account-next : (n : ℕ) (losses after : ℕ → Loss) (o : Option Loss) (old new whole : Account) → n ≡ last + 1
      → r ≡ get_or rows T d → T < length rows
      → o ≡ lost_to last (ext T) (row_seen (last + 1) r) losses
      → ((k : ℕ) → k ≤ last → after k ≡ losses_after (ext T) (row_seen (last + 1) r) losses k)
      → new ≡ and_cycle o old
      → onto (spent_from last ext T losses (rows_seen n (drop T rows))) old ≡ whole
      → onto (spent_from last ext (T + 1) after (rows_seen n (drop (T + 1) rows))) new ≡ whole
  account-next n losses after o old new whole same is b lost next added so_far =
      ap (λ (m : ℕ). onto (spent_from last ext (T + 1) after (rows_seen m (drop (T + 1) rows))) new) same
      ∙ one-more losses after o old new is b lost next added
      ∙ sym (ap (λ (m : ℕ). onto (spent_from last ext T losses (rows_seen m (drop T rows))) old) same)
      ∙ so_far

-- nothing is left
pub account-end : (n last : ℕ) (ext : ℕ → ℕ → Bool) (rows : List masks.Row) (T : ℕ) (losses : ℕ → Loss) (a whole : Account)
    → drop T rows ≡ [] → onto (spent_from last ext T losses (rows_seen n (drop T rows))) a ≡ whole → a ≡ whole
account-end n last ext rows T losses a whole none so_far =
    sym (ap (λ (rs : List masks.Row). onto (spent_from last ext T losses (rows_seen n rs)) a) none) ∙ so_far

pub cycles-more : (o : Option Loss) (a : Account) → cycles_of (and_cycle o a) ≡ cycles_of a + 1
cycles-more o a = let e = counted-more o a in omega (arith, e)
