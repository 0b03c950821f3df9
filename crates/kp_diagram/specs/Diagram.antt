use Rattle.std.specs.Prelude.{ℕ, zero, suc, Bool, true, false, cond, not, ◌&&◌, ◌||◌, eqb, leb, List, [], ◌∷◌, Option, Some, None}
use Rattle.kp_pipeline.specs.Rows.{Row, bit, count_after}

-- THE PIPELINE DIAGRAM of a run, from its rows and stall words alone. `n` is the number of stages, and `ext T k` says whether
-- stage k is stalled from outside in cycle T.

-- What the instruction in a stage does in a cycle: it moves on, waits for a value, waits for the stage ahead, is held from
-- outside, or is squashed.
pub data Mark : Type 0 where
  Moves : Mark
  WaitsForValue : Mark
  WaitsForStage : Mark
  Held : Mark
  Squashed : Mark

-- The stages below `back` are squashed.
abbrev pub is_squashed : Row → ℕ → Bool
is_squashed r k = not (leb r.back k)

-- A full stage that doesn't update.
abbrev pub is_waiting : Row → ℕ → Bool
is_waiting r k = bit r.full k && not (bit r.ue k)

-- The mark of a full stage. Of several reasons to wait the first counts: from outside, the stage ahead, a value.
abbrev pub mark : (ℕ → Bool) → Row → ℕ → Mark
mark ext r k =
    cond (is_squashed r k) Squashed
    (cond (bit r.ue k) Moves (cond (ext k) Held (cond (is_waiting r (suc k)) WaitsForStage WaitsForValue)))

-- In which cycle an instruction is in which stage, and what it does there.
pub record Cell : Type 0 where
  pub cycle : ℕ
  pub stage : ℕ
  pub mark : Mark

-- An instruction that was fetched: its number, and its cells.
pub record Fetch : Type 0 where
  pub number : ℕ
  pub cells : List Cell

-- The stage after the cycle of an instruction that is in stage k; none where it is squashed or leaves the last stage.
abbrev pub next_place : ℕ → Row → ℕ → Option ℕ
next_place n r k = cond (is_squashed r k) None (cond (bit r.ue k) (cond (leb n (suc k)) None (Some (suc k))) (Some k))

-- The cells from cycle T on of an instruction that is in this stage then.
abbrev pub cells_from : ℕ → (ℕ → ℕ → Bool) → ℕ → List Row → Option ℕ → List Cell
cells_from n ext T [] place = []
cells_from n ext T (r ∷ rows) None = []
cells_from n ext T (r ∷ rows) (Some k) =
    record { cycle = T; stage = k; mark = mark (ext T) r k } ∷ cells_from n ext (suc T) rows (next_place n r k)

-- After the cycle stage 0 has a new instruction.
abbrev pub fetches_next : Row → Bool
fetches_next r = bit r.ue 0 || is_squashed r 0

-- The instructions fetched from cycle T on, in order. `count` has the numbers in the stages before cycle T, and `enters` says
-- whether stage 0 has a new instruction in cycle T.
abbrev pub fetches_from : ℕ → (ℕ → ℕ → Bool) → ℕ → (ℕ → ℕ) → Bool → List Row → List Fetch
fetches_from n ext T count enters [] = []
fetches_from n ext T count true (r ∷ rows) =
    record { number = count 0; cells = cells_from n ext T (r ∷ rows) (Some 0) }
    ∷ fetches_from n ext (suc T) (count_after n r count) (fetches_next r) rows
fetches_from n ext T count false (r ∷ rows) = fetches_from n ext (suc T) (count_after n r count) (fetches_next r) rows

-- THE DIAGRAM: its lines, in the order in which the instructions enter stage 0.
abbrev pub diagram : ℕ → (ℕ → ℕ → Bool) → List Row → List Fetch
diagram n ext rows = fetches_from n ext 0 (λ k. 0) true rows

-- RETIRED. A cell in which an instruction leaves the last stage.
abbrev pub does_move : Mark → Bool
does_move Moves = true
does_move _ = false

abbrev pub is_last : ℕ → Cell → Bool
is_last n c = eqb (suc c.stage) n && does_move c.mark

abbrev pub retires : ℕ → List Cell → Bool
retires n [] = false
retires n (c ∷ cells) = is_last n c || retires n cells

abbrev pub retired_numbers : ℕ → List Fetch → List ℕ
retired_numbers n [] = []
retired_numbers n (f ∷ fetches) = cond (retires n f.cells) (f.number ∷ retired_numbers n fetches) (retired_numbers n fetches)

-- THE ACCOUNT: what each cycle was spent for. In a cycle the last stage retires an instruction, holds one that waits, or is
-- empty. An empty stage has a reason, which moves up with it: the pipeline was filling, an instruction waited below, or a wrong guess
-- was squashed.
pub data Loss : Type 0 where
  Filling : Loss
  DataHazard : Loss
  WrongGuess : Loss
  Outside : Loss

-- why an instruction waits that doesn't wait for the stage ahead
abbrev pub loss_of_wait : (ℕ → Bool) → ℕ → Loss
loss_of_wait ext k = cond (ext k) Outside DataHazard

-- Why each stage is empty after the cycle, if it is. (Stage 0 never is.)
abbrev pub losses_after : (ℕ → Bool) → Row → (ℕ → Loss) → ℕ → Loss
losses_after ext r loss zero = Filling
losses_after ext r loss (suc k) =
    cond (is_squashed r k) WrongGuess (cond (bit r.full k) (loss_of_wait ext k) (loss k))

-- What the cycle was lost to, in the last stage; none where it retires an instruction.
abbrev pub lost_to : ℕ → (ℕ → Bool) → Row → (ℕ → Loss) → Option Loss
lost_to last ext r loss =
    cond (bit r.ue last) None (Some (cond (bit r.full last) (loss_of_wait ext last) (loss last)))

pub record Account : Type 0 where
  pub retired : ℕ
  pub filling : ℕ
  pub hazards : ℕ
  pub guesses : ℕ
  pub outside : ℕ

abbrev pub and_cycle : Option Loss → Account → Account
and_cycle None a = record a { retired = suc a.retired }
and_cycle (Some Filling) a = record a { filling = suc a.filling }
and_cycle (Some DataHazard) a = record a { hazards = suc a.hazards }
and_cycle (Some WrongGuess) a = record a { guesses = suc a.guesses }
and_cycle (Some Outside) a = record a { outside = suc a.outside }

abbrev pub account_from : ℕ → (ℕ → ℕ → Bool) → ℕ → (ℕ → Loss) → List Row → Account
account_from last ext T loss [] = record { retired = 0; filling = 0; hazards = 0; guesses = 0; outside = 0 }
account_from last ext T loss (r ∷ rows) =
    and_cycle (lost_to last (ext T) r loss) (account_from last ext (suc T) (losses_after (ext T) r loss) rows)

-- What each cycle from cycle T on was spent for: none where the last stage retires an instruction.
abbrev pub spent_from : ℕ → (ℕ → ℕ → Bool) → ℕ → (ℕ → Loss) → List Row → List (Option Loss)
spent_from last ext T loss [] = []
spent_from last ext T loss (r ∷ rows) =
    lost_to last (ext T) r loss ∷ spent_from last ext (suc T) (losses_after (ext T) r loss) rows

abbrev pub spent : ℕ → (ℕ → ℕ → Bool) → List Row → List (Option Loss)
spent last ext rows = spent_from last ext 0 (λ k. Filling) rows

-- The account of a run, of which `last` is the last stage.
abbrev pub account : ℕ → (ℕ → ℕ → Bool) → List Row → Account
account last ext rows = account_from last ext 0 (λ k. Filling) rows
