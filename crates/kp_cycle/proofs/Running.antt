-- Calls of `step` and `step_with` are the run of the netlist.
use Rattle.std.proofs.Common.{◌≡◌, ℕ, zero, suc, List, ◌∷◌, map, set, get_or, replicate, Option, None, Some, refl, sym, ap, ◌∙◌}
use Rattle.std.{proofs.lemmas.List.map-set, proofs.Math.ListN.get_or-map, specs.Prelude.option_map}
use Rattle.kp_base.specs.declared.row.Row.{Row}
use Rattle.kp_net.specs.Netlist.{Net, Input, State, row_of, rows_from, state_after, last_from, last_of, start_of, run}
use Rattle.kp_net.proofs.Runs.{last_more}
use Rattle.kp_cycle.specs.{Steps.Running, Steps.saved_in, Steps.reg_shown, Steps.word_shown, Runs.Steps, Runs.IsStep, Runs.Fed, Runs.Calls}

-- a netlist in a state, with these slots
abbrev in_state : Net → List (Option State) → State → Running
in_state net slots st = record { net = net; state = st; slots = slots }

rows_are : {s t : Running} {inputs : List Input} {rows : List Row} → Steps s inputs rows t → rows ≡ rows_from s.net s.state inputs
rows_are Steps.none = refl
rows_are (Steps.one_more {s} {t} {u} {input} {row} {inputs} {rows} h more) =
    let there = ap (λ (x : Running). rows_from x.net x.state inputs) h.goes_on in
    ap (λ (r : Row). r ∷ rows) h.shows ∙ ap (λ (rs : List Row). row_of s.net input s.state ∷ rs) (rows_are more ∙ there)

ends_in : {s t : Running} {inputs : List Input} {rows : List Row} → Steps s inputs rows t → t ≡ in_state s.net s.slots (last_from s.net s.state inputs)
ends_in Steps.none = refl
ends_in (Steps.one_more {s} {t} {u} {input} {row} {inputs} {rows} h more) =
    ends_in more ∙ ap (λ (x : Running). in_state x.net x.slots (last_from x.net x.state inputs)) h.goes_on

module _ (net : Net) (slots : List (Option State)) (inputs : List Input) (rows : List Row) (t : Running) where
  pub rows_of_run : Steps (in_state net slots (start_of net)) inputs rows t → rows ≡ (run net inputs).rows
  rows_of_run steps = rows_are steps

  pub state_of_run : Steps (in_state net slots (start_of net)) inputs rows t → t ≡ in_state net slots (last_of net inputs)
  state_of_run steps = ends_in steps

  pub value_of_run : (r : ℕ) → Steps (in_state net slots (start_of net)) inputs rows t → reg_shown t r ≡ reg_shown (in_state net slots (last_of net inputs)) r
  value_of_run r steps = ap (λ (x : Running). reg_shown x r) (ends_in steps)

  pub word_of_run : (f a : ℕ) → Steps (in_state net slots (start_of net)) inputs rows t → word_shown t f a ≡ word_shown (in_state net slots (last_of net inputs)) f a
  word_of_run f a steps = ap (λ (x : Running). word_shown x f a) (ends_in steps)

-- the state and the slots of a simulator are those that its inputs lead to
record IsFed (net : Net) (fed : Fed) (s : Running) : Type 0 where
  net_is : s.net ≡ net
  state_is : s.state ≡ last_of net fed.present
  slots_are : s.slots ≡ map (option_map (last_of net)) fed.slots

none_yet : (f : List Input → State) (n : ℕ) → map (option_map f) (replicate n None) ≡ replicate n None
none_yet f zero = refl
none_yet f (suc n) = ap (λ (l : List (Option State)). None ∷ l) (none_yet f n)

slot_is : (net : Net) (fed : Fed) (s : Running) (slot : ℕ) (inputs : List Input) → IsFed net fed s → get_or fed.slots slot None ≡ Some inputs → saved_in s slot ≡ Some (last_of net inputs)
slot_is net fed s slot inputs is at =
    ap (λ (l : List (Option State)). get_or l slot None) is.slots_are
    ∙ get_or-map (option_map (last_of net)) fed.slots slot None
    ∙ ap (option_map (last_of net)) at

same_some : (a b : State) → Some a ≡ Some b → a ≡ b
same_some a b e = cc

fed_is : (net : Net) (n : ℕ) {fed : Fed} {s : Running} → Calls net n fed s → IsFed net fed s
fed_is net n Calls.opened = record { net_is = refl; state_is = refl; slots_are = sym (none_yet (last_of net) n) }
fed_is net n (Calls.stepped {fed} {s} {t} {input} {row} calls step) =
    let before = fed_is net n calls in
    let on = step.goes_on in
    record {
      net_is = ap (λ (x : Running). x.net) on ∙ before.net_is;
      state_is = ap (λ (x : Running). x.state) on ∙ (λ i. state_after (before.net_is i) input (before.state_is i)) ∙ sym (last_more net (start_of net) fed.present input);
      slots_are = ap (λ (x : Running). x.slots) on ∙ before.slots_are;
    }
fed_is net n (Calls.saved {fed} {s} {t} slot calls is) =
    let before = fed_is net n calls in
    record {
      net_is = ap (λ (x : Running). x.net) is ∙ before.net_is;
      state_is = ap (λ (x : Running). x.state) is ∙ before.state_is;
      slots_are = ap (λ (x : Running). x.slots) is ∙ (λ i. set (before.slots_are i) slot (Some (before.state_is i)))
          ∙ sym (map-set (option_map (last_of net)) fed.slots slot (Some fed.present));
    }
fed_is net n (Calls.loaded {fed} {s} {t} {inputs} slot calls at found is) =
    let before = fed_is net n calls in
    record {
      net_is = ap (λ (x : Running). x.net) is ∙ before.net_is;
      state_is = same_some t.state (last_of net inputs) (sym found ∙ slot_is net fed s slot inputs before at);
      slots_are = ap (λ (x : Running). x.slots) is ∙ before.slots_are;
    }

module _ (net : Net) (n : ℕ) (fed : Fed) (s : Running) where
  pub state_of_calls : Calls net n fed s → s.state ≡ last_of net fed.present
  state_of_calls calls = (fed_is net n calls).state_is

  pub row_of_calls : (input : Input) (row : Row) (t : Running) → Calls net n fed s → IsStep s input row t → row ≡ row_of net input (last_of net fed.present)
  row_of_calls input row t calls step =
      let is = fed_is net n calls in
      step.shows ∙ (λ i. row_of (is.net_is i) input (is.state_is i))

  pub slot_of_calls : (slot : ℕ) (inputs : List Input) → Calls net n fed s → get_or fed.slots slot None ≡ Some inputs → saved_in s slot ≡ Some (last_of net inputs)
  slot_of_calls slot inputs calls at = slot_is net fed s slot inputs (fed_is net n calls) at
