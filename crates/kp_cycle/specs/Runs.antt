-- Calls of `step` and `step_with`, in order, and with calls of `save` and `load` among them.
use Rattle.std.specs.Prelude.{◌≡◌, ℕ, List, [], ◌∷◌, ◌++◌, set, get_or, replicate, Option, None, Some}
use Rattle.kp_base.specs.declared.row.Row.{Row}
use Rattle.kp_net.specs.Netlist.{Net, Input, start_of, state_after, row_of}
use Rattle.kp_cycle.specs.Steps.{Running, saved_in}

-- what a call with this input does: the row that it returns, and the simulator after it; the input of `step ext` is
-- `stalled ext`, and that of `step_with ext rst samples` is `given ext rst samples`
pub record IsStep (before : Running) (input : Input) (row : Row) (behind : Running) : Type 0 where
  pub shows : row ≡ row_of before.net input before.state
  pub goes_on : behind ≡ record before { state = state_after before.net input before.state }

-- calls with these inputs, in order, and the rows that they return
pub data Steps : Running → List Input → List Row → Running → Type 0 where
  none : {s : Running} → Steps s [] [] s
  one_more : {s t u : Running} {input : Input} {row : Row} {inputs : List Input} {rows : List Row}
      → IsStep s input row t → Steps t inputs rows u → Steps s (input ∷ inputs) (row ∷ rows) u

-- the inputs since the start: up to the present state, and up to the state in each slot that was saved
pub record Fed : Type 0 where
  pub present : List Input
  pub slots : List (Option (List Input))

-- calls in any order, after opening with n slots
pub data Calls (net : Net) (n : ℕ) : Fed → Running → Type 0 where
  opened : Calls net n (record { present = []; slots = replicate n None }) (record { net = net; state = start_of net; slots = replicate n None })
  stepped : {fed : Fed} {s t : Running} {input : Input} {row : Row}
      → Calls net n fed s → IsStep s input row t → Calls net n (record fed { present = fed.present ++ input ∷ [] }) t
  saved : {fed : Fed} {s t : Running} (slot : ℕ)
      → Calls net n fed s → t ≡ record s { slots = set s.slots slot (Some s.state) } → Calls net n (record fed { slots = set fed.slots slot (Some fed.present) }) t
  loaded : {fed : Fed} {s t : Running} {inputs : List Input} (slot : ℕ)
      → Calls net n fed s → get_or fed.slots slot None ≡ Some inputs → saved_in s slot ≡ Some t.state → t ≡ record s { state = t.state }
      → Calls net n (record fed { present = inputs }) t
