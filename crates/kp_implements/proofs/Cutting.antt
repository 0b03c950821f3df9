-- Runs that are cut: a run after some inputs is the run from the state in which these end.
use Rattle.std.proofs.Common.{◌≡◌, ◌∙◌, ℕ, suc, ◌+◌, List, [], ◌∷◌, ◌++◌, drop, length, get_or, refl, ap, arith}
use Rattle.kp_net.specs.Netlist.{Net, Input, State, state_after, states_from, rows_from, last_from}

pub rows_behind : (net : Net) (st : State) (before : List Input) (i : Input) (inputs : List Input)
    → drop (suc (length before)) (rows_from net st (before ++ i ∷ inputs)) ≡ rows_from net (state_after net i (last_from net st before)) inputs
rows_behind net st [] i inputs = refl
rows_behind net st (j ∷ before) i inputs = rows_behind net (state_after net j st) before i inputs

pub states_behind : (net : Net) (st : State) (before : List Input) (i : Input) (inputs : List Input) (T : ℕ) (d : State)
    → get_or (states_from net st (before ++ i ∷ inputs)) (suc (length before) + T) d ≡ get_or (states_from net (state_after net i (last_from net st before)) inputs) T d
states_behind net st [] i inputs T d =
    let e : 1 + T ≡ suc T = omega arith in
    ap (λ n. get_or (states_from net st (i ∷ inputs)) n d) e
states_behind net st (j ∷ before) i inputs T d =
    let e : suc (suc (length before)) + T ≡ suc (suc (length before) + T) = omega arith in
    ap (λ n. get_or (states_from net st (j ∷ (before ++ i ∷ inputs))) n d) e
    ∙ states_behind net (state_after net j st) before i inputs T d

pub state_last : (net : Net) (st : State) (inputs : List Input) (d : State) → get_or (states_from net st inputs) (length inputs) d ≡ last_from net st inputs
state_last net st [] d = refl
state_last net st (i ∷ inputs) d = state_last net (state_after net i st) inputs d

pub state_there : (net : Net) (st : State) (before : List Input) (i : Input) (inputs : List Input) (d : State)
    → get_or (states_from net st (before ++ i ∷ inputs)) (length before) d ≡ last_from net st before
state_there net st [] i inputs d = refl
state_there net st (j ∷ before) i inputs d = state_there net (state_after net j st) before i inputs d
