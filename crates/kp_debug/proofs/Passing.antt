-- The cycles of a run pass.
use Rattle.std.proofs.Common.{◌≡◌, ℕ, zero, suc, ◌+◌, ◌<◌, ◌≤◌, List, [], ◌∷◌, length, get_or, take, Option, Some, None, refl, sym, ap, ◌∙◌, arith}
use Rattle.std.{proofs.lemmas.List.take_more, proofs.lemmas.Option.slice_get-get_or, proofs.lemmas.Option.slice_get_past, specs.Prelude.slice_get}
use Rattle.kp_base.specs.declared.row.Row.{Row}
use Rattle.kp_net.specs.Netlist.{Net, Input, State, start_of, state_after, row_of, states_from, rows_from, last_from, last_of, run}
use Rattle.kp_net.proofs.Runs.{last_more}
use Rattle.kp_debug.specs.{Sessions.no_state, inner.Kept.no_input}

state_from : (net : Net) (st : State) (inputs : List Input) (c : ℕ) → c ≤ length inputs → get_or (states_from net st inputs) c no_state ≡ last_from net st (take c inputs)
state_from net st [] zero h = refl
state_from net st [] (suc c) h = absurd (omega arith)
state_from net st (i ∷ inputs) zero h = refl
state_from net st (i ∷ inputs) (suc c) h = state_from net (state_after net i st) inputs c (omega arith)

-- the state of a run in a cycle is that after the cycles before
pub state_at_cycle : (net : Net) (inputs : List Input) (c : ℕ) → c ≤ length inputs → get_or (run net inputs).states c no_state ≡ last_of net (take c inputs)
state_at_cycle net inputs c h = state_from net (start_of net) inputs c h

row_from : (net : Net) (st : State) (inputs : List Input) (c : ℕ) (d : Row) → c < length inputs → get_or (rows_from net st inputs) c d ≡ row_of net (get_or inputs c no_input) (last_from net st (take c inputs))
row_from net st [] c d h = absurd (omega arith)
row_from net st (i ∷ inputs) zero d h = refl
row_from net st (i ∷ inputs) (suc c) d h = row_from net (state_after net i st) inputs c d (omega arith)

rows_many : (net : Net) (st : State) (inputs : List Input) → length (rows_from net st inputs) ≡ length inputs
rows_many net st [] = refl
rows_many net st (i ∷ inputs) = ap (λ (n : ℕ). suc n) (rows_many net (state_after net i st) inputs)

-- and its row
pub row_at_cycle : (net : Net) (inputs : List Input) (c : ℕ) (row : Row) → c < length inputs → row ≡ row_of net (get_or inputs c no_input) (last_of net (take c inputs))
    → Some row ≡ slice_get (run net inputs).rows c
row_at_cycle net inputs c row h is =
    let many = rows_many net (start_of net) inputs in
    ap (λ (r : Row). Some r) (is ∙ sym (row_from net (start_of net) inputs c row h))
    ∙ sym (slice_get-get_or (run net inputs).rows c row (omega (arith, many)))

-- which doesn't exist at the end
pub no_row_at_end : (net : Net) (inputs : List Input) (c : ℕ) → length inputs ≤ c → None ≡ slice_get (run net inputs).rows c
no_row_at_end net inputs c h = let many = rows_many net (start_of net) inputs in sym (slice_get_past (run net inputs).rows c (omega (arith, many)))

-- one cycle more
pub run_more : (net : Net) (inputs : List Input) (c : ℕ) → c < length inputs → state_after net (get_or inputs c no_input) (last_of net (take c inputs)) ≡ last_of net (take (c + 1) inputs)
run_more net inputs c h =
    sym (last_more net (start_of net) (take c inputs) (get_or inputs c no_input)) ∙ ap (last_of net) (sym (take_more inputs c no_input h))
