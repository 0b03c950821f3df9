-- A diagram takes stall words of its own cycles alone.
use Rattle.std.proofs.Common.{◌≡◌, ◌∙◌, ℕ, suc, ◌+◌, ◌<◌, Bool, true, false, List, [], ◌∷◌, length, Option, Some, None, refl, ap, ap₂, arith}
use Rattle.kp_pipeline.specs.Rows.{Row, count_after}
use Rattle.kp_diagram.specs.Diagram.{Cell, Fetch, Loss, account_from, and_cycle, cells_from, fetches_from, fetches_next, losses_after, lost_to, mark, next_place}
use Rattle.kp_diagram.specs.Flights.{Placed, carried, entering, losses_from}

-- the stall words of `count` cycles from cycle T on are the same
abbrev pub SameFrom : (ℕ → ℕ → Bool) → (ℕ → ℕ → Bool) → ℕ → ℕ → Type 0
SameFrom e f T count = (t : ℕ) → t < count → e (T + t) ≡ f (T + t)

module _ (e f : ℕ → ℕ → Bool) where
  here : (T count : ℕ) → SameFrom e f T (suc count) → e T ≡ f T
  here T count h = let z : T + 0 ≡ T = omega arith in (rw z at (h 0 (omega arith)))

  later : (T count : ℕ) → SameFrom e f T (suc count) → SameFrom e f (suc T) count
  later T count h t b = let z : T + suc t ≡ suc T + t = omega arith in (rw z at (h (suc t) (omega arith)))

  cells-same : (n T : ℕ) (rows : List Row) (place : Option ℕ) → SameFrom e f T (length rows)
      → cells_from n e T rows place ≡ cells_from n f T rows place
  cells-same n T [] place h = refl
  cells-same n T (r ∷ rows) None h = refl
  cells-same n T (r ∷ rows) (Some k) h =
      ap₂ (λ (x : ℕ → Bool) (cells : List Cell). record { cycle = T; stage = k; mark = mark x r k } ∷ cells) (here T (length rows) h)
      (cells-same n (suc T) rows (next_place n r k) (later T (length rows) h))

  pub fetches-same : (n T : ℕ) (count : ℕ → ℕ) (enters : Bool) (rows : List Row) → SameFrom e f T (length rows)
      → fetches_from n e T count enters rows ≡ fetches_from n f T count enters rows
  fetches-same n T count enters [] h = refl
  fetches-same n T count true (r ∷ rows) h =
      ap₂ (λ (cells : List Cell) (fetches : List Fetch). record { number = count 0; cells = cells } ∷ fetches) (cells-same n T (r ∷ rows) (Some 0) h)
      (fetches-same n (suc T) (count_after n r count) (fetches_next r) rows (later T (length rows) h))
  fetches-same n T count false (r ∷ rows) h =
      fetches-same n (suc T) (count_after n r count) (fetches_next r) rows (later T (length rows) h)

  pub carried-same : (n : ℕ) (rows : List Row) (ps : List Placed) → SameFrom e f 0 (length rows) → carried n e 0 rows ps ≡ carried n f 0 rows ps
  carried-same n rows [] h = refl
  carried-same n rows (p ∷ ps) h =
      ap₂ (λ (cells : List Cell) (fetches : List Fetch). record { number = p.number; cells = cells } ∷ fetches) (cells-same n 0 rows (Some p.stage) h) (carried-same n rows ps h)

  pub entering-same : (n T : ℕ) (numbers : ℕ → ℕ) (enters : Bool) (rows : List Row) → SameFrom e f T (length rows)
      → entering n e T numbers enters rows ≡ entering n f T numbers enters rows
  entering-same n T numbers enters [] h = refl
  entering-same n T numbers true (r ∷ rows) h =
      ap₂ (λ (cells : List Cell) (fetches : List Fetch). record { number = numbers T; cells = cells } ∷ fetches) (cells-same n T (r ∷ rows) (Some 0) h)
      (entering-same n (suc T) numbers (fetches_next r) rows (later T (length rows) h))
  entering-same n T numbers false (r ∷ rows) h = entering-same n (suc T) numbers (fetches_next r) rows (later T (length rows) h)

  pub losses-same : (T : ℕ) (loss : ℕ → Loss) (rows : List Row) → SameFrom e f T (length rows) → losses_from e T loss rows ≡ losses_from f T loss rows
  losses-same T loss [] h = refl
  losses-same T loss (r ∷ rows) h =
      ap (λ (x : ℕ → Bool). losses_from e (suc T) (losses_after x r loss) rows) (here T (length rows) h)
      ∙ losses-same (suc T) (losses_after (f T) r loss) rows (later T (length rows) h)

  pub account-same : (last T : ℕ) (loss : ℕ → Loss) (rows : List Row) → SameFrom e f T (length rows)
      → account_from last e T loss rows ≡ account_from last f T loss rows
  account-same last T loss [] h = refl
  account-same last T loss (r ∷ rows) h =
      ap (λ (x : ℕ → Bool). and_cycle (lost_to last x r loss) (account_from last e (suc T) (losses_after x r loss) rows)) (here T (length rows) h)
      ∙ ap (and_cycle (lost_to last (f T) r loss)) (account-same last (suc T) (losses_after (f T) r loss) rows (later T (length rows) h))
