-- What the ports show, by the statements on the netlist.
use Rattle.std.proofs.Common.{◌≡◌, ◌∙◌, ℕ, zero, suc, ◌^◌, ◌+◌, ◌-◌, ◌<◌, ◌≤◌, zero-add, Bool, true, false, cond, ◌&&◌, List, [], ◌∷◌, All, length, get_or, refl, sym, ap, subst, arith}
use Rattle.std.proofs.{lemmas.Bool.and_parts, lemmas.Bool.cond-false, lemmas.Nat.pow_pos, Math.Bool.and-false, lemmas.List.get_or-map, lemmas.List.length-map}
use Rattle.std.specs.Prelude.{nat_le}
use Rattle.kp_ast.specs.declared.tree.Job.{Job}
use Rattle.kp_pipeline.specs.{Accepted.Accepted, Pipeline.PipelineState, Pipeline.pipeline_start, RightPath.HasRightGuesses}
use Rattle.kp_pipeline.specs.Rows.{Row, passed, one_if, bit, bits, counts, pipe, taken}
use Rattle.kp_pipeline.{specs.Sequential.Instruction, specs.Sequential.instruction_before, proofs.Counts.counts-passed, proofs.Lists.bit-bits}
use Rattle.kp_width.{specs.Widths.widths_of, proofs.Unbroken.Unbroken}
use Rattle.kp_machine.specs.{Machine.machine_of, Machine.start_hints, Words.HasWord}
use Rattle.kp_net.specs.{declared.netlist.NetReg.NetReg, Nodes.at}
use Rattle.kp_net.specs.Netlist.{Net, Input, State, cells_of, state_after, regs_after, files_after, start_regs, states_from, rows_from, row_of}
use Rattle.kp_net.specs.Parts.{no_reg}
use Rattle.kp_sched.specs.Rows.{rows_seen, bit_of}
use Rattle.kp_sched.proofs.Counting.{seen_length}
use Rattle.kp_implements.specs.{Naming.value_of, Naming.value_shown, Shows.Shows, Legal.value_from, Legal.IsLegalFrom, Anew.trace_from, Anew.BeginsAnew}
use Rattle.kp_implements.specs.Traces.{input_seen, inputs_seen, no_state, AreQuiet}
use Rattle.kp_synth_next.specs.Shows.{HoldsFrom}
use Rattle.kp_synth_registers.specs.Holding.{word_bit}
use Rattle.kp_design.specs.{Spans.put_after, Numbers.target_at, Numbers.pipe_at, Spans.is_alive}
use Rattle.kp_synth_registers.specs.{Keys.keys_of, Keys.place_of, declared.key.Key.TheVariants.Pipe}
use Rattle.kp_synth.specs.Carrying.{Carries}
use Rattle.kp_core_ports.specs.Ports.{Exists}
use Rattle.kp_core_ports.specs.declared.port.Ask.TheVariants.{Show, Peek, Probe, Next, Commit}
use Rattle.kp_core_ports.proofs.Registers.{there}
use Rattle.kp_core.specs.{Beginning.Begins, Values.port_value, Values.state_in, Values.moment_in, Waves.AllHave}
use Rattle.kp_wires.specs.{Truth.IsTrue, declared.wire.Wire.Wire}
use Rattle.kp_core.proofs.{Beginning.along, Beginning.shown_along, Occupants.full_where_updated, Occupants.held_instruction, Occupants.held_late, Occupants.none_passed}

-- ---- registers and files

rows_are : (net : Net) (st : State) (ins : List Input) → length (rows_from net st ins) ≡ length ins
rows_are net st [] = refl
rows_are net st (i ∷ ins) = ap suc (rows_are net (state_after net i st) ins)

module _ (job : Job) (net : Net) (s : State) (v : ℕ → ℕ → ℕ) (ins : List Input) (legal : IsLegalFrom job v (inputs_seen job ins) (trace_from job net s ins)) where
  word_is : (T t a : ℕ) → T ≤ length ins → HasWord job t a
      → value_of net (state_in net s ins T) (target_at job t) a ≡ value_from job v (inputs_seen job ins) (trace_from job net s ins).rows T t a
  unfolding trace_from value_shown
  word_is T t a h has =
      let many : length (rows_seen job.stages.value (rows_from net s ins)) ≡ length ins = seen_length job.stages.value (rows_from net s ins) ∙ rows_are net s ins in
      legal T t a (omega (arith, many, h)) has

  pub shown : (i : Input) (T t b : ℕ) → T ≤ length ins → Exists job (Show t)
      → port_value job net i (state_in net s ins T) b (Show t) ≡ value_from job v (inputs_seen job ins) (trace_from job net s ins).rows T t 0
  shown i T t b h exists = word_is T t 0 h (record { target = exists.0; address = pow_pos (target_at job t).address })

  pub peeked : (i : Input) (T t a : ℕ) → T ≤ length ins → Exists job (Peek t) → a < 2 ^ (target_at job t).address
      → port_value job net i (state_in net s ins T) a (Peek t) ≡ value_from job v (inputs_seen job ins) (trace_from job net s ins).rows T t a
  peeked i T t a h exists small = word_is T t a h (record { target = exists.0; address = small })

-- ---- the registers of pipes

module _ (net : Net) (job : Job) (shows : Shows net job) (names : Unbroken (widths_of job)) (carries : Carries net job) (s : State) (v : ℕ → ℕ → ℕ) (ins : List Input) (b : Begins net job s v) (quiet : AreQuiet ins) where
  held_along : HoldsFrom net job s v ins
  held_along = along net job shows names (λ w x. HoldsFrom net job x w ins) (carries.runs ins quiet) (λ x i m r. carries.anew x i ins m r quiet) s v b

  pub probed : (i : Input) (T x k a : ℕ) → T ≤ length ins → Exists job (Probe x k)
      → port_value job net i (state_in net s ins T) a (Probe x k) ≡ ((moment_in job v (inputs_seen job ins) T).state.stage k).instruction.pipes x
  probed i T x k a h (few, piped, after, before) =
      let st : PipelineState = (moment_in job v (inputs_seen job ins) T).state in
      let alive : is_alive job x k ≡ true = (and_parts (nat_le (put_after (pipe_at job x).name 0 job.blocks) k) (is_alive job x k) piped).1 in
      (held_along.holds T i h).pipes x k few piped after before ∙ ap (λ (c : Bool). cond c ((st.stage k).instruction.pipes x) 0) alive

  -- each wire that has its signal wherever the registers hold a state
  pub wires_shown : (i : Input) (T : ℕ) → T ≤ length ins → (wires : List Wire) → All (IsTrue job net) wires → AllHave job net s v ins i T wires
  wires_shown i T h wires all = λ k d l. all k d l (cells_of i (state_in net s ins T)) _ (input_seen job i) (held_along.holds T i h)

  module _ (anew : BeginsAnew net job) (acc : Accepted (machine_of job)) where
    abbrev rows_of_run : List Row
    rows_of_run = (trace_from job net s ins).rows

    abbrev own : List Row
    own = (pipe (machine_of job) v (start_hints job) (inputs_seen job ins)).rows

    same_rows : own ≡ rows_of_run
    same_rows = sym (shown_along net job shows names anew s v ins b quiet).rows

    within : (T : ℕ) → T ≤ length ins → T ≤ length (inputs_seen job ins)
    within T h = let e = length-map ins (input_seen job) in omega (arith, h, e)

    pub probed_right : (i : Input) (T x k a : ℕ) → T ≤ length ins → Exists job (Probe x k) → ((moment_in job v (inputs_seen job ins) T).state.stage k).full ≡ true
        → ((j : ℕ) → k ≤ j → j < job.stages.value → HasRightGuesses (machine_of job) v (taken (machine_of job) (inputs_seen job ins) rows_of_run) (moment_in job v (inputs_seen job ins) T) j)
        → port_value job net i (state_in net s ins T) a (Probe x k)
        ≡ (instruction_before (machine_of job) v (taken (machine_of job) (inputs_seen job ins) rows_of_run) (counts job.stages.value rows_of_run T k) k).pipes x
    unfolding machine_of
    probed_right i T x k a h e f right =
        probed i T x k a h e
        ∙ ap (λ (c : Instruction). c.pipes x)
        (held_instruction (machine_of job) acc v (start_hints job) (inputs_seen job ins) T k (within T h) e.3 f
        (λ j l m. subst (λ (rs : List Row). HasRightGuesses (machine_of job) v (taken (machine_of job) (inputs_seen job ins) rs) (moment_in job v (inputs_seen job ins) T) j) (sym same_rows) (right j l m)))
        ∙ ap (λ (rs : List Row). (instruction_before (machine_of job) v (taken (machine_of job) (inputs_seen job ins) rs) (counts job.stages.value rs T k) k).pipes x) same_rows

    pub probed_late : (i : Input) (T x k a : ℕ) → T ≤ length ins → Exists job (Probe x k) → ((moment_in job v (inputs_seen job ins) T).state.stage k).full ≡ true
        → (machine_of job).last_guessed ≤ k
        → port_value job net i (state_in net s ins T) a (Probe x k)
        ≡ (instruction_before (machine_of job) v (taken (machine_of job) (inputs_seen job ins) rows_of_run) (counts job.stages.value rows_of_run T k) k).pipes x
    unfolding machine_of
    probed_late i T x k a h e f late =
        probed i T x k a h e
        ∙ ap (λ (c : Instruction). c.pipes x) (held_late (machine_of job) acc v (start_hints job) (inputs_seen job ins) T k (within T h) e.3 late f)
        ∙ ap (λ (rs : List Row). (instruction_before (machine_of job) v (taken (machine_of job) (inputs_seen job ins) rs) (counts job.stages.value rs T k) k).pipes x) same_rows

    pub probed_stores : (i : Input) (T x k a : ℕ) → T < length ins → Exists job (Probe x k) → (machine_of job).last_guessed ≤ k
        → passed rows_of_run k (suc T) ≡ suc (passed rows_of_run k T)
        → port_value job net i (state_in net s ins T) a (Probe x k)
        ≡ (instruction_before (machine_of job) v (taken (machine_of job) (inputs_seen job ins) rows_of_run) (passed rows_of_run k T) k).pipes x
    unfolding machine_of
    probed_stores i T x k a h e late moves =
        let all = within (suc T) (omega (arith, h)) in
        let f : ((moment_in job v (inputs_seen job ins) T).state.stage k).full ≡ true =
        full_where_updated (machine_of job) (inputs_seen job ins) (pipeline_start v (start_hints job)) T k e.3 (omega (arith, all))
        (subst (λ (rs : List Row). passed rs k (suc T) ≡ suc (passed rs k T)) (sym same_rows) moves) in
        let number : counts job.stages.value rows_of_run T k ≡ passed rows_of_run k T =
        subst (λ (rs : List Row). counts job.stages.value rs T k ≡ passed rs k T) same_rows
        (counts-passed (machine_of job) v (start_hints job) (inputs_seen job ins) acc k T e.3 (omega (arith, late))) in
        probed_late i T x k a (omega (arith, h)) e f late
        ∙ ap (λ (n : ℕ). (instruction_before (machine_of job) v (taken (machine_of job) (inputs_seen job ins) rows_of_run) n k).pipes x) number

-- ---- what a register takes

none_quiet : AreQuiet []
none_quiet k d l = absurd (omega (arith, l))

pub taken_next : (job : Job) (net : Net) (i : Input) (st : State) (x k b : ℕ) → Carries net job → i.reset ≡ false → Exists job (Next x k)
    → port_value job net i st b (Next x k) ≡ get_or (state_after net i st).regs (place_of job (Pipe x k)) 0
unfolding place_of
taken_next job net i st x k b carries off has =
    let within = there net job (keys_of job) x k refl (carries.runs [] none_quiet).keys has in
    let f : NetReg → ℕ = λ r. at (cells_of i st) net.nodes r.next.0 in
    let same : get_or (regs_after net (cells_of i st)) (place_of job (Pipe x k)) 0 ≡ f (get_or net.parts.regs (place_of job (Pipe x k)) no_reg) =
    get_or-map f net.parts.regs (place_of job (Pipe x k)) no_reg 0 within in
    let begun : State = record { regs = start_regs net; files = st.files } in
    let next : State = record { regs = regs_after net (cells_of i st); files = files_after net (cells_of i st) st.files } in
    let moves : state_after net i st ≡ next = cond-false (net.parts.reset && i.reset) begun next (ap (λ (b : Bool). net.parts.reset && b) off ∙ and-false net.parts.reset) in
    sym (ap (λ (s : State). get_or s.regs (place_of job (Pipe x k)) 0) moves ∙ same)

-- ---- what leaves the last stage

first_row : (job : Job) (net : Net) (st : State) (i : Input) (ins : List Input) → 0 < job.stages.value
    → passed (rows_seen job.stages.value (rows_from net st (i ∷ ins))) (job.stages.value - 1) 1
    ≡ passed (rows_seen job.stages.value (rows_from net st (i ∷ ins))) (job.stages.value - 1) 0
    + one_if (word_bit (row_of net i st).ue (job.stages.value - 1))
first_row job net st i ins h =
    let n = job.stages.value in
    let r = row_of net i st in
    let same : bit (bits (bit_of r.ue) n 0) (n - 1) ≡ bit_of r.ue (n - 1) = bit-bits (bit_of r.ue) n 0 (n - 1) (omega (arith, h)) ∙ ap (bit_of r.ue) (zero-add (n - 1)) in
    let none : passed (rows_seen n (rows_from net (state_after net i st) ins)) (n - 1) 0 ≡ 0 = none_passed (rows_seen n (rows_from net (state_after net i st) ins)) (n - 1) in
    let e = ap one_if same in omega (arith, e, none)

passed_next : (job : Job) (net : Net) (st : State) (ins : List Input) (T : ℕ) (d : Input) → 0 < job.stages.value → T < length ins
    → passed (rows_seen job.stages.value (rows_from net st ins)) (job.stages.value - 1) (suc T)
    ≡ passed (rows_seen job.stages.value (rows_from net st ins)) (job.stages.value - 1) T
    + one_if (word_bit (row_of net (get_or ins T d) (get_or (states_from net st ins) T no_state)).ue (job.stages.value - 1))
passed_next job net st [] T d h l = absurd (omega (arith, l))
passed_next job net st (i ∷ []) zero d h l = first_row job net st i [] h
passed_next job net st (i ∷ j ∷ ins) zero d h l = first_row job net st i (j ∷ ins) h
passed_next job net st (i ∷ ins) (suc T) d h l =
    let more = passed_next job net (state_after net i st) ins T d h (omega (arith, l)) in omega (arith, more)

pub committed : (job : Job) (net : Net) (s : State) (ins : List Input) (T a : ℕ) (d : Input) → 0 < job.stages.value → T < length ins
    → passed (trace_from job net s ins).rows (job.stages.value - 1) (suc T)
    ≡ passed (trace_from job net s ins).rows (job.stages.value - 1) T + port_value job net (get_or ins T d) (state_in net s ins T) a Commit
unfolding trace_from
committed job net s ins T a d h l = passed_next job net s ins T d h l
