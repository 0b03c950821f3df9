use Rattle.std.proofs.Common.{◌≡◌, ℕ, zero, suc, ◌+◌, ◌<◌, ◌≤◌, Bool, true, false, List, [], ◌∷◌, length, Option, Some, None, refl, sym, ap, ◌∙◌, subst, ◌⊎◌, inl, inr, ⊎_elim, arith}
use Rattle.std.{specs.List.AllByRecursion, proofs.lemmas.Bool.cases_lt, proofs.lemmas.Bool.both_ways, proofs.lemmas.Bool.false_from_ne_true}
use Rattle.kp_pipeline.specs.Machine.{Machine}
use Rattle.kp_pipeline.specs.Pipeline.{Inputs, PipelineState, cycle, next_stage, pipeline_start, stall, ue}
use Rattle.kp_pipeline.specs.Rows.{Row, count_after, counts, counts_from, pipe, row, rows_from, state_after}
use Rattle.kp_pipeline.specs.Accepted.{Accepted}
use Rattle.kp_pipeline.proofs.{Lists.all-map, Lists.bit-at, Cycle.ue-parts}
use Rattle.kp_pipeline.proofs.Movement.{count-moved, count-stays, kept-full, next-from, next-moved, next_count, stall-full}
use Rattle.kp_pipeline.proofs.{Invariant.Shape, Pending.shape-kept, Pending.shape-start, Counts.AgreeBelow, Counts.counts-row}
use Rattle.kp_diagram.specs.Diagram.{Cell, Fetch, cells_from, diagram, fetches_from, fetches_next, mark, next_place}
use Rattle.kp_diagram.specs.Claims.{HasCell, HasReasons, Holds, IsReason, Shows, input_at, is_full, stalls_of}
use Rattle.kp_diagram.proofs.Steps.{by-fate, fetches-moved, fetches-swept, place-leaves, place-moves, place-stays, place-swept, reason}

-- THE CELLS of a diagram are what the stages hold.

pub cells-none : (n : ℕ) (ext : ℕ → ℕ → Bool) (T : ℕ) (rows : List Row) → cells_from n ext T rows None ≡ []
cells-none n ext T [] = refl
cells-none n ext T (r ∷ rows) = refl

-- stage 0 is always full
pub first-full : (m : Machine) (st : PipelineState) (count : ℕ → ℕ) → Shape m st count → (st.stage 0).full ≡ true
first-full m st count shape = ap (λ x. x.full) shape.first

-- The stall words from cycle T on are those of the inputs.
abbrev pub StallsFrom : (ℕ → ℕ → Bool) → ℕ → List Inputs → Type 0
StallsFrom ext T ins = (t : ℕ) → ext (T + t) ≡ stalls_of ins t

pub stalls-here : (ext : ℕ → ℕ → Bool) (T : ℕ) (i : Inputs) (ins : List Inputs) → StallsFrom ext T (i ∷ ins) → ext T ≡ i.ext
stalls-here ext T i ins h = let e : T + 0 ≡ T = omega arith in (rw e at (h 0))

pub stalls-next : (ext : ℕ → ℕ → Bool) (T : ℕ) (i : Inputs) (ins : List Inputs) → StallsFrom ext T (i ∷ ins) → StallsFrom ext (suc T) ins
stalls-next ext T i ins h t = let e : T + suc t ≡ suc T + t = omega arith in (rw e at (h (suc t)))

module _ (m : Machine) (acc : Accepted m) (ext : ℕ → ℕ → Bool) where
  -- A cell of instruction number in a run from a state in cycle T, with these counts there.
  abbrev pub Fits : PipelineState → (ℕ → ℕ) → ℕ → List Inputs → ℕ → Cell → Type 0
  Fits st c T ins number x =
      (t : ℕ) × (x.cycle ≡ T + t) × (t < length ins) × (x.stage < m.stages)
      × (((state_after m st ins t).stage x.stage).full ≡ true)
      × (counts_from m.stages c (rows_from m st ins) t x.stage ≡ number)
      × IsReason m (state_after m st ins t) (input_at ins t) x.stage x.mark

  fits-later : (st : PipelineState) (c : ℕ → ℕ) (T : ℕ) (i : Inputs) (ins : List Inputs) (number : ℕ) (x : Cell)
      → Fits (cycle m st i) (count_after m.stages (row m st i) c) (suc T) ins number x → Fits st c T (i ∷ ins) number x
  fits-later st c T i ins number x (t, e, l, b, f, n, r) = (suc t, omega arith, omega arith, b, f, n, r)

  -- what was moved or kept has its number along
  count-next : (st : PipelineState) (i : Inputs) (c d : ℕ → ℕ) → AgreeBelow m.stages c d → (k j : ℕ) → k < m.stages → j < m.stages
      → next_count m st i d j ≡ d k → count_after m.stages (row m st i) c j ≡ c k
  count-next st i c d same k j b a e = counts-row m st i c d same j a ∙ e ∙ sym (same k b)

  -- all cells from a place on fit
  abbrev pub AllFit : PipelineState → (ℕ → ℕ) → ℕ → List Inputs → ℕ → Option ℕ → Type 0
  AllFit st c T ins number place = AllByRecursion (Fits st c T ins number) (cells_from m.stages ext T (rows_from m st ins) place)

  none-fit : (ins : List Inputs) (st : PipelineState) (c : ℕ → ℕ) (T number : ℕ) (place : Option ℕ) → place ≡ None
      → AllFit st c T ins number place
  none-fit ins st c T number place p = rw (p, cells-none m.stages ext T (rows_from m st ins)) tt

  -- after a cycle, given that the cells from each full stage fit
  next-fit : (ins : List Inputs) (st : PipelineState) (i : Inputs) (c d : ℕ → ℕ) → Shape m st d → AgreeBelow m.stages c d
      → (T number k : ℕ) → k < m.stages → (st.stage k).full ≡ true → c k ≡ number
      → ((j : ℕ) → j < m.stages → (next_stage m st i j).full ≡ true → count_after m.stages (row m st i) c j ≡ number
      → AllFit (cycle m st i) (count_after m.stages (row m st i) c) T ins number (Some j))
      → AllFit (cycle m st i) (count_after m.stages (row m st i) c) T ins number (next_place m.stages (row m st i) k)
  next-fit ins st i c d shape same T number k b f e ih = by-fate m st i k
      (λ q u. none (place-swept m st i k q))
      (λ u. ⊎_elim
      (λ (w : suc k < m.stages). some (suc k) (place-moves m st i k w u) w (next-moved m st i k u) (count-moved m st i d shape.chain k w u))
      (λ (w : m.stages ≤ suc k). none (place-leaves m st i k (omega arith) u))
      (cases_lt (suc k) m.stages))
      (λ g s q u. some k (place-stays m st i k b q u) b (kept-full m st i k q s) (count-stays m st i d k q u))
      (λ g q u. absurd (both_ways (st.stage k).full g f))
    where
      some : (j : ℕ) → next_place m.stages (row m st i) k ≡ Some j → j < m.stages → (next_stage m st i j).full ≡ true
          → next_count m st i d j ≡ d k
          → AllFit (cycle m st i) (count_after m.stages (row m st i) c) T ins number (next_place m.stages (row m st i) k)
      some j p a g n = rw p (ih j a g (count-next st i c d same k j b a n ∙ e))

      none : next_place m.stages (row m st i) k ≡ None
          → AllFit (cycle m st i) (count_after m.stages (row m st i) c) T ins number (next_place m.stages (row m st i) k)
      none p = none-fit ins (cycle m st i) (count_after m.stages (row m st i) c) T number (next_place m.stages (row m st i) k) p

  cells-fit : (ins : List Inputs) (st : PipelineState) (c d : ℕ → ℕ) → Shape m st d → AgreeBelow m.stages c d
      → (T : ℕ) → StallsFrom ext T ins → (number k : ℕ) → k < m.stages → (st.stage k).full ≡ true → c k ≡ number
      → AllFit st c T ins number (Some k)
  cells-fit [] st c d shape same T stalls number k b f e = tt
  cells-fit (i ∷ ins) st c d shape same T stalls number k b f e = (
    (0, omega arith, omega arith, b, f, e, subst (λ (x : ℕ → Bool). IsReason m st i k (mark x (row m st i) k)) (sym (stalls-here ext T i ins stalls)) (reason m st i k b f)),
    all-map (Fits (cycle m st i) (count_after m.stages (row m st i) c) (suc T) ins number) (Fits st c T (i ∷ ins) number) (fits-later st c T i ins number)
        (cells_from m.stages ext (suc T) (rows_from m (cycle m st i) ins) (next_place m.stages (row m st i) k))
        (next-fit ins st i c d shape same (suc T) number k b f e
        (λ j a g n. cells-fit ins (cycle m st i) (count_after m.stages (row m st i) c) (next_count m st i d) (shape-kept m acc st i d shape) (counts-row m st i c d same) (suc T) (stalls-next ext T i ins stalls) number j a g n)),
  )

  -- all fetches
  abbrev pub FetchFits : PipelineState → (ℕ → ℕ) → ℕ → List Inputs → Fetch → Type 0
  FetchFits st c T ins f = AllByRecursion (Fits st c T ins f.number) f.cells

  fetch-later : (st : PipelineState) (c : ℕ → ℕ) (T : ℕ) (i : Inputs) (ins : List Inputs) (f : Fetch)
      → FetchFits (cycle m st i) (count_after m.stages (row m st i) c) (suc T) ins f → FetchFits st c T (i ∷ ins) f
  fetch-later st c T i ins f h =
      all-map (Fits (cycle m st i) (count_after m.stages (row m st i) c) (suc T) ins f.number) (Fits st c T (i ∷ ins) f.number) (fits-later st c T i ins f.number) f.cells h

  rest-later : (st : PipelineState) (c : ℕ → ℕ) (T : ℕ) (i : Inputs) (ins : List Inputs) (fetches : List Fetch)
      → AllByRecursion (FetchFits (cycle m st i) (count_after m.stages (row m st i) c) (suc T) ins) fetches
      → AllByRecursion (FetchFits st c T (i ∷ ins)) fetches
  rest-later st c T i ins fetches h =
      all-map (FetchFits (cycle m st i) (count_after m.stages (row m st i) c) (suc T) ins) (FetchFits st c T (i ∷ ins)) (fetch-later st c T i ins) fetches h

  pub fetches-fit : (ins : List Inputs) (st : PipelineState) (c d : ℕ → ℕ) → Shape m st d → AgreeBelow m.stages c d
      → (T : ℕ) → StallsFrom ext T ins → (enters : Bool)
      → AllByRecursion (FetchFits st c T ins) (fetches_from m.stages ext T c enters (rows_from m st ins))
  fetches-fit [] st c d shape same T stalls enters = tt
  fetches-fit (i ∷ ins) st c d shape same T stalls true = (
    cells-fit (i ∷ ins) st c d shape same T stalls (c 0) 0 acc.some_stages (first-full m st d shape) refl,
    rest-later st c T i ins (fetches_from m.stages ext (suc T) (count_after m.stages (row m st i) c) (fetches_next (row m st i)) (rows_from m (cycle m st i) ins))
        (fetches-fit ins (cycle m st i) (count_after m.stages (row m st i) c) (next_count m st i d) (shape-kept m acc st i d shape) (counts-row m st i c d same) (suc T) (stalls-next ext T i ins stalls) (fetches_next (row m st i))),
  )
  fetches-fit (i ∷ ins) st c d shape same T stalls false =
      rest-later st c T i ins (fetches_from m.stages ext (suc T) (count_after m.stages (row m st i) c) (fetches_next (row m st i)) (rows_from m (cycle m st i) ins))
      (fetches-fit ins (cycle m st i) (count_after m.stages (row m st i) c) (next_count m st i d) (shape-kept m acc st i d shape) (counts-row m st i c d same) (suc T) (stalls-next ext T i ins stalls) (fetches_next (row m st i)))

-- EACH FULL STAGE has its cell: its instruction was there before the cycle, below, or is new in stage 0.
abbrev pub SomeShows : ℕ → ℕ → List Fetch → Type 0
SomeShows T k [] = ⊥
SomeShows T k (f ∷ fetches) = HasCell T k f.cells ⊎ SomeShows T k fetches

module _ (m : Machine) (acc : Accepted m) (ext : ℕ → ℕ → Bool) where
  -- a stage that is full has the cell of a later cycle
  abbrev pub FromStage : PipelineState → List Inputs → ℕ → ℕ → ℕ → Type 0
  FromStage st ins T U j =
      (k : ℕ) × (k < m.stages) × ((st.stage k).full ≡ true) × HasCell U j (cells_from m.stages ext T (rows_from m st ins) (Some k))

  -- the instructions that enter after the first cycle
  abbrev pub later : PipelineState → (ℕ → ℕ) → List Inputs → ℕ → List Fetch
  later st c [] T = []
  later st c (i ∷ ins) T =
      fetches_from m.stages ext (suc T) (count_after m.stages (row m st i) c) (fetches_next (row m st i)) (rows_from m (cycle m st i) ins)

  -- those that enter later still are among them
  later-later : (st : PipelineState) (c : ℕ → ℕ) (i : Inputs) (ins : List Inputs) (T U j : ℕ)
      → SomeShows U j (later (cycle m st i) (count_after m.stages (row m st i) c) ins (suc T)) → SomeShows U j (later st c (i ∷ ins) T)
  later-later st c i [] T U j h = absurd h
  later-later st c i (i' ∷ ins) T U j h =
      elim (fetches_next (row m st i)) as (λ b. SomeShows U j (fetches_from m.stages ext (suc T) (count_after m.stages (row m st i) c) b (rows_from m (cycle m st i) (i' ∷ ins))))
      [ true ↦ inr h | false ↦ h ]

  -- and so is one that is new in stage 0
  later-new : (st : PipelineState) (c : ℕ → ℕ) (i : Inputs) (ins : List Inputs) (T U j : ℕ) → fetches_next (row m st i) ≡ true
      → HasCell U j (cells_from m.stages ext (suc T) (rows_from m (cycle m st i) ins) (Some 0)) → SomeShows U j (later st c (i ∷ ins) T)
  later-new st c i [] T U j e h = absurd h
  later-new st c i (i' ∷ ins) T U j e h = rw e (inl h)

  -- the cell of a stage after the cycle is one of the stage before it
  from-place : (st : PipelineState) (i : Inputs) (ins : List Inputs) (T U j k k' : ℕ) → k < m.stages → (st.stage k).full ≡ true
      → next_place m.stages (row m st i) k ≡ Some k'
      → HasCell U j (cells_from m.stages ext (suc T) (rows_from m (cycle m st i) ins) (Some k')) → FromStage st (i ∷ ins) T U j
  from-place st i ins T U j k k' b f p h = (k, b, f, inr (rw p h))

  find-before : (st : PipelineState) (c : ℕ → ℕ) (i : Inputs) (ins : List Inputs) (T U j k' : ℕ) → k' < m.stages
      → (st.stage 0).full ≡ true → (next_stage m st i k').full ≡ true
      → HasCell U j (cells_from m.stages ext (suc T) (rows_from m (cycle m st i) ins) (Some k'))
      → FromStage st (i ∷ ins) T U j ⊎ SomeShows U j (later st c (i ∷ ins) T)
  find-before st c i ins T U j zero b first f h = by-fate m st i 0
      (λ q u. inr (later-new st c i ins T U j (fetches-swept m st i q) h))
      (λ u. inr (later-new st c i ins T U j (fetches-moved m st i b u) h))
      (λ g s q u. inl (from-place st i ins T U j 0 0 b g (place-stays m st i 0 b q u) h))
      (λ g q u. absurd (both_ways (st.stage 0).full g first))
  find-before st c i ins T U j (suc k) b first f h =
      let p = next-from m st i k f in
      ⊎_elim
      (λ u. inl (from-place st i ins T U j k (suc k) (omega arith) (ue-parts m st i k u).0 (place-moves m st i k b u) h))
      (λ s. inl (from-place st i ins T U j (suc k) (suc k) b (stall-full m st i (suc k) s)
      (place-stays m st i (suc k) b p.0 (false_from_ne_true (ue m st i (suc k)) (λ v. both_ways (stall m st i (suc k)) (ue-parts m st i (suc k) v).1 s))) h))
      p.1

  pub find : (ins : List Inputs) (st : PipelineState) (c d : ℕ → ℕ) → Shape m st d → (T t j : ℕ) → t < length ins → j < m.stages
      → ((state_after m st ins t).stage j).full ≡ true
      → FromStage st ins T (T + t) j ⊎ SomeShows (T + t) j (later st c ins T)
  find [] st c d shape T t j l b f = absurd (omega arith)
  find (i ∷ ins) st c d shape T zero j l b f = inl (j, b, f, inl (omega arith, refl))
  find (i ∷ ins) st c d shape T (suc t) j l b f =
      let e : T + suc t ≡ suc T + t = omega arith in
      subst (λ (U : ℕ). FromStage st (i ∷ ins) T U j ⊎ SomeShows U j (later st c (i ∷ ins) T)) (sym e)
      (⊎_elim
      (λ (x : FromStage (cycle m st i) ins (suc T) (suc T + t) j). find-before st c i ins T (suc T + t) j x.0 x.1 (first-full m st d shape) x.2 x.3)
      (λ x. inr (later-later st c i ins T (suc T + t) j x))
      (find ins (cycle m st i) (count_after m.stages (row m st i) c) (next_count m st i d) (shape-kept m acc st i d shape) (suc T) t j (omega arith) b f))

  -- At the start only stage 0 is full, so all cells are in the diagram.
  pub find-all : (s : ℕ → ℕ → ℕ) (hints : ℕ → ℕ) (ins : List Inputs) (t j : ℕ) → t < length ins → j < m.stages
      → ((state_after m (pipeline_start s hints) ins t).stage j).full ≡ true
      → SomeShows t j (diagram m.stages ext (rows_from m (pipeline_start s hints) ins))
  find-all s hints [] t j l b f = absurd (omega arith)
  find-all s hints (i ∷ ins) t j l b f =
      let e : 0 + t ≡ t = omega arith in
      ⊎_elim (λ x. start-only x.0 x.2 x.3) (λ x. inr x)
      (subst (λ (U : ℕ). FromStage (pipeline_start s hints) (i ∷ ins) 0 U j ⊎ SomeShows U j (later (pipeline_start s hints) (λ k. 0) (i ∷ ins) 0)) e
      (find (i ∷ ins) (pipeline_start s hints) (λ k. 0) (λ k. 0) (shape-start m s hints) 0 t j l b f))
    where
      start-only : (k : ℕ) → ((pipeline_start s hints).stage k).full ≡ true
          → HasCell t j (cells_from m.stages ext 0 (rows_from m (pipeline_start s hints) (i ∷ ins)) (Some k))
          → SomeShows t j (diagram m.stages ext (rows_from m (pipeline_start s hints) (i ∷ ins)))
      start-only zero f h = inl h
      start-only (suc k) f h = absurd (both_ways false refl f)

-- FULL STAGES in rows and in states.
pub full-at : (m : Machine) (ins : List Inputs) (st : PipelineState) (t k : ℕ) → t < length ins → k < m.stages
    → is_full (rows_from m st ins) t k ≡ ((state_after m st ins t).stage k).full
full-at m [] st t k l b = absurd (omega arith)
full-at m (i ∷ ins) st zero k l b = bit-at (λ j. (st.stage j).full) m.stages k b
full-at m (i ∷ ins) st (suc t) k l b = full-at m ins (cycle m st i) t k (omega arith) b

pub full-within : (m : Machine) (ins : List Inputs) (st : PipelineState) (t k : ℕ) → is_full (rows_from m st ins) t k ≡ true → t < length ins
full-within m [] st t k f = absurd (both_ways false refl f)
full-within m (i ∷ ins) st zero k f = omega arith
full-within m (i ∷ ins) st (suc t) k f = let x = full-within m ins (cycle m st i) t k f in omega arith

-- THE LAWS.
module _ (m : Machine) (acc : Accepted m) (s : ℕ → ℕ → ℕ) (hints : ℕ → ℕ) (ins : List Inputs) where
  abbrev lines : List Fetch
  lines = diagram m.stages (stalls_of ins) (pipe m s hints ins).rows

  abbrev HasFit : Fetch → Type 0
  HasFit f = FetchFits m acc (stalls_of ins) (pipeline_start s hints) (λ k. 0) 0 ins f

  all-fit : AllByRecursion HasFit lines
  all-fit = fetches-fit m acc (stalls_of ins) ins (pipeline_start s hints) (λ k. 0) (λ k. 0) (shape-start m s hints) (λ k b. refl) 0 (λ t. let e : 0 + t ≡ t = omega arith in ap (λ (x : ℕ). stalls_of ins x) e) true

  abbrev HasCount : ℕ → Cell → Type 0
  HasCount number x = Holds m.stages (pipe m s hints ins).rows number x.cycle x.stage

  count-of : (number : ℕ) (x : Cell) → Fits m acc (stalls_of ins) (pipeline_start s hints) (λ k. 0) 0 ins number x → HasCount number x
  count-of number x (t, e, l, b, f, n, r) =
      let w : x.cycle ≡ t = omega arith in
      rw w (b, full-at m ins (pipeline_start s hints) t x.stage l b ∙ f, n)

  reason-of : (number : ℕ) (x : Cell) → Fits m acc (stalls_of ins) (pipeline_start s hints) (λ k. 0) 0 ins number x
      → IsReason m (state_after m (pipeline_start s hints) ins x.cycle) (input_at ins x.cycle) x.stage x.mark
  reason-of number x (t, e, l, b, f, n, r) = let w : x.cycle ≡ t = omega arith in rw w r

  pub reasons : HasReasons m (pipeline_start s hints) ins lines
  reasons =
      all-map HasFit (λ f. AllByRecursion (λ x. IsReason m (state_after m (pipeline_start s hints) ins x.cycle) (input_at ins x.cycle) x.stage x.mark) f.cells)
      (λ f h. all-map (Fits m acc (stalls_of ins) (pipeline_start s hints) (λ k. 0) 0 ins f.number) _ (reason-of f.number) f.cells h) lines all-fit

  in-cells : (number T k : ℕ) (cells : List Cell) → AllByRecursion (HasCount number) cells → HasCell T k cells
      → Holds m.stages (pipe m s hints ins).rows number T k
  in-cells number T k [] h x = absurd x
  in-cells number T k (x ∷ cells) h (inl p) = rw (← p.0, ← p.1) h.0
  in-cells number T k (x ∷ cells) h (inr p) = in-cells number T k cells h.1 p

  in-lines : (i T k : ℕ) (fetches : List Fetch) → AllByRecursion (λ f. AllByRecursion (HasCount f.number) f.cells) fetches
      → Shows fetches i T k → Holds m.stages (pipe m s hints ins).rows i T k
  in-lines i T k [] h x = absurd x
  in-lines i T k (f ∷ fetches) h (inl p) = rw (← p.0) (in-cells f.number T k f.cells h.0 p.1)
  in-lines i T k (f ∷ fetches) h (inr p) = in-lines i T k fetches h.1 p

  counted : AllByRecursion (λ f. AllByRecursion (HasCount f.number) f.cells) lines
  counted =
      all-map HasFit (λ f. AllByRecursion (HasCount f.number) f.cells)
      (λ f h. all-map (Fits m acc (stalls_of ins) (pipeline_start s hints) (λ k. 0) 0 ins f.number) (HasCount f.number) (count-of f.number) f.cells h) lines all-fit

  pub shown-holds : (i T k : ℕ) → Shows lines i T k → Holds m.stages (pipe m s hints ins).rows i T k
  shown-holds i T k x = in-lines i T k lines counted x

  numbered : (T k : ℕ) (fetches : List Fetch) → AllByRecursion (λ f. AllByRecursion (HasCount f.number) f.cells) fetches
      → SomeShows T k fetches → Shows fetches (counts m.stages (pipe m s hints ins).rows T k) T k
  numbered T k [] h x = absurd x
  numbered T k (f ∷ fetches) h (inl p) = inl (sym (in-cells f.number T k f.cells h.0 p).2, p)
  numbered T k (f ∷ fetches) h (inr p) = inr (numbered T k fetches h.1 p)

  pub holds-shown : (i T k : ℕ) → Holds m.stages (pipe m s hints ins).rows i T k → Shows lines i T k
  holds-shown i T k (b, f, e) =
      let l = full-within m ins (pipeline_start s hints) T k f in
      let x = find-all m acc (stalls_of ins) s hints ins T k l b (sym (full-at m ins (pipeline_start s hints) T k l b) ∙ f) in
      rw (← e) (numbered T k lines counted x)
