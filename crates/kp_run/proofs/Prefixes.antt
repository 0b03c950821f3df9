-- The first cycles of a run.
use Rattle.std.proofs.Common.{◌≡◌, ◌∙◌, ℕ, zero, suc, ◌+◌, ◌<◌, ◌≤◌, List, [], ◌∷◌, ◌++◌, length, take, get_or, Bool, true, false, refl, ap, sym, subst, arith, length-append}
use Rattle.std.proofs.lemmas.{Bool.ltb-true, Bool.ltb-false, List.get_or_at, List.get_or_append_left, List.length-take-le}
use Rattle.std.specs.Prelude.{nat_lt}
use Rattle.kp_base.specs.declared.row.Row as masks
use Rattle.kp_ast.specs.declared.tree.Job.{Job}
use Rattle.kp_pipeline.specs.Rows.{bit, bits, one_if, passed}
use Rattle.kp_net.specs.Netlist.{Net, Input, State, start_of, state_after, states_from, rows_from, last_of, run}
use Rattle.kp_net.proofs.Runs.{states_more, last_more}
use Rattle.kp_sched.specs.Rows.{bit_of, rows_seen}
use Rattle.kp_implements.specs.Traces.{no_state, state_at}
use Rattle.kp_run.specs.Cycles.{input_at, inputs_to}

-- ---- the states and the rows of a netlist

inputs_many : (job : Job) (n : ℕ) → length (inputs_to job n) ≡ n
inputs_many job zero = refl
inputs_many job (suc n) = let e = inputs_many job n in simp length-append (omega (arith, e))

states_many : (net : Net) (s : State) (ins : List Input) → length (states_from net s ins) ≡ suc (length ins)
states_many net s [] = refl
states_many net s (i ∷ ins) = ap suc (states_many net (state_after net i s) ins)

rows_count : (net : Net) (s : State) (ins : List Input) → length (rows_from net s ins) ≡ length ins
rows_count net s [] = refl
rows_count net s (i ∷ ins) = ap suc (rows_count net (state_after net i s) ins)

pub rows_many : (job : Job) (net : Net) (n : ℕ) → length (run net (inputs_to job n)).rows ≡ n
rows_many job net n = rows_count net (start_of net) (inputs_to job n) ∙ inputs_many job n

module _ (job : Job) (net : Net) (n : ℕ) where
  abbrev before : List State
  before = states_from net (start_of net) (inputs_to job n)

  abbrev last : State
  last = state_after net (input_at job n) (last_of net (inputs_to job n))

  states_before : length before ≡ suc n
  states_before = states_many net (start_of net) (inputs_to job n) ∙ ap suc (inputs_many job n)

  states_longer : states_from net (start_of net) (inputs_to job (suc n)) ≡ before ++ last ∷ []
  states_longer = states_more net (start_of net) (inputs_to job n) (input_at job n)

  state_last : state_at net (inputs_to job (suc n)) (suc n) ≡ last_of net (inputs_to job (suc n))
  state_last =
      ap (λ (l : List State). get_or l (suc n) no_state) states_longer
      ∙ get_or_at before last [] no_state (suc n) states_before
      ∙ sym (last_more net (start_of net) (inputs_to job n) (input_at job n))

  state_shorter : (T : ℕ) → T ≤ n → state_at net (inputs_to job (suc n)) T ≡ state_at net (inputs_to job n) T
  state_shorter T h =
      ap (λ (l : List State). get_or l T no_state) states_longer
      ∙ get_or_append_left before (last ∷ []) no_state T (omega (arith, h, states_before))

-- the state after T of n cycles is that of the run over T cycles
pub state_is : (job : Job) (net : Net) (n T : ℕ) → T ≤ n → state_at net (inputs_to job n) T ≡ last_of net (inputs_to job T)
state_is job net zero zero h = refl
state_is job net zero (suc T) h = absurd (omega (arith, h))
state_is job net (suc n) T h = go (state_is job net n T) (nat_lt n T) refl
  where
    go : (T ≤ n → state_at net (inputs_to job n) T ≡ last_of net (inputs_to job T)) → (c : Bool) → nat_lt n T ≡ c
        → state_at net (inputs_to job (suc n)) T ≡ last_of net (inputs_to job T)
    go shorter true e =
        let above : n < T = ltb-true n T e in
        let same : suc n ≡ T = omega (arith, h, above) in
        subst (λ (m : ℕ). state_at net (inputs_to job (suc n)) m ≡ last_of net (inputs_to job m)) same (state_last job net n)
    go shorter false e =
        let below : T ≤ n = ltb-false n T e in
        state_shorter job net n T below ∙ shorter below

-- ---- the update enables of rows

pub passed_first : (n : ℕ) (rows : List masks.Row) (k T : ℕ) → passed (rows_seen n (take T rows)) k T ≡ passed (rows_seen n rows) k T
passed_first n rows k zero = refl
passed_first n [] k (suc T) = refl
passed_first n (r ∷ rows) k (suc T) = ap (λ (m : ℕ). one_if (bit (bits (bit_of r.ue) n 0) k) + m) (passed_first n rows k T)

pub passed_before : (n : ℕ) (rows : List masks.Row) (k T : ℕ) → T ≤ length rows
    → passed (rows_seen n (take T rows)) k (length (take T rows)) ≡ passed (rows_seen n rows) k T
passed_before n rows k T h = ap (passed (rows_seen n (take T rows)) k) (length-take-le T rows h) ∙ passed_first n rows k T

-- one row more
pub passed_next : (n : ℕ) (rows : List masks.Row) (k T : ℕ) (d : masks.Row) → T < length rows
    → passed (rows_seen n rows) k (T + 1) ≡ passed (rows_seen n rows) k T + one_if (bit (bits (bit_of (get_or rows T d).ue) n 0) k)
passed_next n [] k T d h = absurd (omega (arith, h))
passed_next n (r ∷ rows) k zero d h = omega arith
passed_next n (r ∷ rows) k (suc T) d h =
    let rest = passed_next n rows k T d (omega (arith, h)) in
    let e : suc T + 1 ≡ suc (T + 1) = omega arith in
    ap (passed (rows_seen n (r ∷ rows)) k) e ∙ omega (arith, rest)
