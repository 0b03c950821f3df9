-- Runs, one cycle after another.
use Rattle.std.proofs.Common.{◌≡◌, List, [], ◌∷◌, ◌++◌, refl, ap}
use Rattle.kp_base.specs.declared.row.Row.{Row}
use Rattle.kp_net.specs.Netlist.{Net, Input, State, state_after, row_of, states_from, rows_from, last_from}

pub states_more : (net : Net) (st : State) (inputs : List Input) (i : Input) → states_from net st (inputs ++ i ∷ []) ≡ states_from net st inputs ++ state_after net i (last_from net st inputs) ∷ []
states_more net st [] i = refl
states_more net st (j ∷ inputs) i = ap (λ (ss : List State). st ∷ ss) (states_more net (state_after net j st) inputs i)

pub rows_more : (net : Net) (st : State) (inputs : List Input) (i : Input) → rows_from net st (inputs ++ i ∷ []) ≡ rows_from net st inputs ++ row_of net i (last_from net st inputs) ∷ []
rows_more net st [] i = refl
rows_more net st (j ∷ inputs) i = ap (λ (rs : List Row). row_of net j st ∷ rs) (rows_more net (state_after net j st) inputs i)

pub last_more : (net : Net) (st : State) (inputs : List Input) (i : Input) → last_from net st (inputs ++ i ∷ []) ≡ state_after net i (last_from net st inputs)
last_more net st [] i = refl
last_more net st (j ∷ inputs) i = last_more net (state_after net j st) inputs i
