-- A WINDOW IS A PART of a diagram: it shows the cells from its first cycle on, and no others.
use Rattle.std.proofs.Common.{◌≡◌, ℕ, ◌+◌, ◌-◌, ◌≤◌, Bool, true, false, cond, leb, List, [], ◌∷◌, refl, sym, subst, ◌⊎◌, inl, inr, ⊎_elim, arith}
use Rattle.std.proofs.lemmas.Bool.{le-leb, leb-true}
use Rattle.kp_diagram.specs.{Claims.HasCell, Claims.Shows, Diagram.Cell, Diagram.Fetch, Windows.cells_after, Windows.window, Windows.with_cells}

module _ (A T k : ℕ) where
  abbrev moved : Cell → Cell
  moved c = record { cycle = c.cycle - A; stage = c.stage; mark = c.mark }

  cell-back : (cells : List Cell) → HasCell T k (cells_after A cells) → HasCell (A + T) k cells
  cell-back [] h = h
  cell-back (c ∷ cells) h = go (cell-back cells) (leb A c.cycle) refl h
    where
      go : (HasCell T k (cells_after A cells) → HasCell (A + T) k cells) → (b : Bool) → leb A c.cycle ≡ b
          → HasCell T k (cond b (moved c ∷ cells_after A cells) (cells_after A cells)) → HasCell (A + T) k (c ∷ cells)
      go rest true e (inl x) = let least : A ≤ c.cycle = leb-true A c.cycle e in inl (omega (arith, least, x.0), x.1)
      go rest true e (inr x) = inr (rest x)
      go rest false e x = inr (rest x)

  cell-on : (cells : List Cell) → HasCell (A + T) k cells → HasCell T k (cells_after A cells)
  cell-on [] h = h
  cell-on (c ∷ cells) (inl x) =
      subst (λ (b : Bool). HasCell T k (cond b (moved c ∷ cells_after A cells) (cells_after A cells))) (sym (le-leb A c.cycle (omega (arith, x.0)))) (inl (omega (arith, x.0), x.1))
  cell-on (c ∷ cells) (inr x) = go (cell-on cells x) (leb A c.cycle)
    where
      go : HasCell T k (cells_after A cells) → (b : Bool) → HasCell T k (cond b (moved c ∷ cells_after A cells) (cells_after A cells))
      go y true = inr y
      go y false = y

  pub shown-back : (i : ℕ) (fetches : List Fetch) → Shows (window A fetches) i T k → Shows fetches i (A + T) k
  shown-back i [] h = h
  shown-back i (f ∷ fetches) h = ⊎_elim (λ x. inl (x.0, cell-back f.cells x.1)) (λ y. inr (shown-back i fetches y)) (split (cells_after A f.cells) h)
    where
      split : (cells : List Cell) → Shows (with_cells f.number cells (window A fetches)) i T k → ((f.number ≡ i) × HasCell T k cells) ⊎ Shows (window A fetches) i T k
      split [] h = inr h
      split (c ∷ cells) h = h

  pub shown-on : (i : ℕ) (fetches : List Fetch) → Shows fetches i (A + T) k → Shows (window A fetches) i T k
  shown-on i [] h = h
  shown-on i (f ∷ fetches) h = join (cells_after A f.cells) (⊎_elim (λ x. inl (x.0, cell-on f.cells x.1)) (λ y. inr (shown-on i fetches y)) h)
    where
      join : (cells : List Cell) → ((f.number ≡ i) × HasCell T k cells) ⊎ Shows (window A fetches) i T k → Shows (with_cells f.number cells (window A fetches)) i T k
      join [] (inl x) = absurd x.1
      join [] (inr h) = h
      join (c ∷ cells) h = h
